-- Laws of the levels one after the other: what each way to return says of the levels from a subgrid on. Assumes nothing.
use mathlib.Core.Path.{◌≡◌, refl, sym, ap, ap₂, ◌∙◌}
use mathlib.Core.Bool.{Bool, true, not}
use mathlib.Core.List.{List}
use Rattle.std.specs.Prelude.{Option, Some, None}
use mathlib.Core.Logic.{◌≢◌}
use Prim.Native.Nat.{ℕ, zero, suc, ◌+◌, ◌-◌, ◌^◌, ◌<◌}
use native.Mathlib.Omega.{arith}
use native.Mathlib.Numerals.{add-one}
use lib.ListN.{length, get_or, set}
use lib.Seq.{get_or-set_same, get_or-set_other}
use Rattle.bits.specs.Bits.{num, sum, has}
use Rattle.bits.proofs.TestLaws.{false_when}
use Rattle.bits.proofs.BoundLaws.{sum_ext}
use Rattle.bits.proofs.BitLaws.{word_lt}
use Rattle.rdis.specs.Block.{Block}
use Rattle.rdis.specs.Levels.{Subgrid, takes, taken, left, Outcome, masked, unmaskable, more, levels}
use Rattle.rdis.proofs.LevelLaws.{levels_none, levels_stop, levels_next, left_rows}
use Rattle.grid_sets.specs.Sets.{times}
use Rattle.grid_levels.specs.Steps.{block_of, Takes, Follows, Planned}

-- ---- one set more

times_more : (xs : List ℕ) (n x i : ℕ) → n < length xs → times (set xs n x) (n + 1) i ≡ num (has x i) + times xs n i
unfolding times sum
times_more xs n x i h =
    rw add-one
    (ap₂ ◌+◌ (ap (λ y. num (has y i)) (get_or-set_same xs n x 0 h))
    (sum_ext n (λ m. num (has (get_or (set xs n x) m 0) i)) (λ m. num (has (get_or xs m 0) i)) (λ m l. ap (λ y. num (has y i)) (get_or-set_other xs n m x 0 (λ e. omega arith)))))

-- ---- the levels inside, and one more

module _ (k at : ℕ) (rows₀ columns₀ rows columns : List ℕ) (t : Subgrid) (y : k ≢ 0) (p : at < length rows₀) (q : at < length columns₀) where
  one_more_lem : (u : Option ℕ) (o : Outcome) → Follows (k - 1) (at + 1) (set rows₀ at t.rows) (set columns₀ at t.columns) rows columns u o
      → Follows k at rows₀ columns₀ rows columns u (more t o)
  one_more_lem None unmaskable f = tt
  one_more_lem None (masked l r c) f = absurd f
  one_more_lem (Some u) unmaskable f = absurd f
  one_more_lem (Some u) (masked l r c) f = record {
    few = omega (arith, f.few);
    used = omega (arith, f.used);
    rows = λ i. f.rows i ∙ omega (arith, times_more rows₀ at t.rows i p);
    columns = λ j. f.columns j ∙ omega (arith, times_more columns₀ at t.columns j q);
  }

-- ---- the ways to return

module _ (n : ℕ) (d mask values : List ℕ) (w : Bool) (s t : Subgrid) (e : t ≡ taken (block_of n d mask values) w s) where
  abbrev of : Block
  of = block_of n d mask values

  columns_few : t.columns < 2 ^ n
  unfolding taken
  columns_few = rw (ap (λ x. x.columns) e) (word_lt n _)

  some_left : t.rows ≢ 0 → left of w s ≡ true
  some_left z = (left_rows of w s).1 (λ q. z (ap (λ x. x.rows) e ∙ q))

  next : (k : ℕ) → t.rows ≢ 0 → k ≢ 0 → levels of k w s ≡ more t (levels of (k - 1) (not w) t)
  next zero z y = absurd (y refl)
  next (suc k) z y =
      let q : suc k - 1 ≡ k = omega arith in
      levels_next of k w s (some_left z) ∙ rw (q, e)

  module _ (k at : ℕ) (rows₀ columns₀ : List ℕ) where
    -- no wrong cell is left
    follows_none : t.rows ≡ 0 → Follows k at rows₀ columns₀ rows₀ columns₀ (Some at) (levels of k w s)
    follows_none z =
        let f = false_when (left of w s) (λ q. (left_rows of w s).0 q (ap (λ x. x.rows) (sym e) ∙ z)) in
        rw (levels_none of k w s f) (record { few = omega arith; used = omega arith; rows = λ i. omega arith; columns = λ j. omega arith })

    -- one is, and no level is allowed
    follows_stop : t.rows ≢ 0 → k ≡ 0 → Follows k at rows₀ columns₀ rows₀ columns₀ None (levels of k w s)
    follows_stop z e₀ = rw (e₀, levels_stop of w s (some_left z)) tt

    -- one is, and one level more is used
    follows_more : (rows columns : List ℕ) (u : Option ℕ) → t.rows ≢ 0 → k ≢ 0 → at < length rows₀ → at < length columns₀
        → Follows (k - 1) (at + 1) (set rows₀ at t.rows) (set columns₀ at t.columns) rows columns u (levels of (k - 1) (not w) t)
        → Follows k at rows₀ columns₀ rows columns u (levels of k w s)
    follows_more rows columns u z y l m f = rw (next k z y) (one_more_lem k at rows₀ columns₀ rows columns t y l m u (levels of (k - 1) (not w) t) f)

module _ (d mask values : List ℕ) (w : Bool) (t : Subgrid) (k at : ℕ) (rows₀ columns₀ : List ℕ) where
  pub planned_none : t.rows ≡ 0 → Planned d mask values t w k at rows₀ columns₀ rows₀ columns₀ (Some at)
  planned_none z = record { follows = λ n s e. follows_none n d mask values w s t e k at rows₀ columns₀ z }

  pub planned_stop : t.rows ≢ 0 → k ≡ 0 → Planned d mask values t w k at rows₀ columns₀ rows₀ columns₀ None
  planned_stop z e₀ = record { follows = λ n s e. follows_stop n d mask values w s t e k at rows₀ columns₀ z e₀ }

  pub planned_more : (t' : Subgrid) (rows columns : List ℕ) (u : Option ℕ) → t.rows ≢ 0 → k ≢ 0 → at < length rows₀ → at < length columns₀ → Takes d mask values t (not w) t'
      → Planned d mask values t' (not w) (k - 1) (at + 1) (set rows₀ at t.rows) (set columns₀ at t.columns) rows columns u
      → Planned d mask values t w k at rows₀ columns₀ rows columns u
  planned_more t' rows columns u z y l m takes p = record {
    follows = λ n s e. follows_more n d mask values w s t e k at rows₀ columns₀ rows columns u z y l m (p.follows n t (takes.taken· n (columns_few n d mask values w s t e)));
  }
