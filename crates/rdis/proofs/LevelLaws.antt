-- The levels by induction, and by chains: when a plan is refused, and how many levels it uses. Assumes nothing.
use Prim.Native.Nat.{ℕ, zero, suc, ◌+◌, ◌-◌, ◌*◌, ◌≤◌, ◌<◌}
use mathlib.Core.Path.{◌≡◌, refl, ap, subst, ◌∙◌}
use mathlib.Core.Bool.{Bool, true, false, not}
use mathlib.Core.List.{[], ◌∷◌}
use mathlib.Core.Logic.Iff
use mathlib.Core.Logic.{◌↔◌, ◌≢◌, ⊎_elim}
use native.Mathlib.Omega.{arith}
use Rattle.bits.specs.Bits.{word}
use Rattle.bits.proofs.TestLaws.{clash, true_or_false}
use Rattle.bits.proofs.BoundLaws.{some_ext}
use Rattle.bits.proofs.BitLaws.{has_word, word_lt, some_has}
use Rattle.rdis.specs.Block.{Block}
use Rattle.rdis.specs.Levels.{Subgrid, whole, takes_row, taken, left, Outcome, masked, unmaskable, none, more, levels, plan}
use Rattle.rdis.specs.Chains.{HasChain, SomeWrong}
use Rattle.rdis.specs.Facts.{LevelsUsed}
use Rattle.rdis.specs.Theorems.{RefusedByChain, MoreAllowed, LevelsByChain, OneDepth, NoChainEmpty}
use Rattle.rdis.proofs.Walks.{twice, twice_is}
use Rattle.rdis.proofs.Taking.{Long, long_suc, long_zero, long_le, long_whole, some_wrong}

-- ---- one level

pub levels_none : (b : Block) (k : ℕ) (w : Bool) (s : Subgrid) → left b w s ≡ false → levels b k w s ≡ none
unfolding levels
levels_none b zero w s e = rw e
levels_none b (suc k) w s e = rw e

pub levels_stop : (b : Block) (w : Bool) (s : Subgrid) → left b w s ≡ true → levels b zero w s ≡ unmaskable
unfolding levels
levels_stop b w s e = rw e

pub levels_next : (b : Block) (k : ℕ) (w : Bool) (s : Subgrid) → left b w s ≡ true → levels b (suc k) w s ≡ more (taken b w s) (levels b k (not w) (taken b w s))
unfolding levels
levels_next b k w s e = rw e

-- a wrong cell is left exactly when a row is taken
pub left_rows : (b : Block) (w : Bool) (s : Subgrid) → (left b w s ≡ true) ↔ ((taken b w s).rows ≢ 0)
unfolding left taken
left_rows b w s =
    subst (λ t. (t ≡ true) ↔ (word b.rows (takes_row b w s) ≢ 0)) (some_ext b.rows _ (takes_row b w s) (has_word b.rows (takes_row b w s)))
    (some_has b.rows (word b.rows (takes_row b w s)) (word_lt b.rows (takes_row b w s)))

-- what holds of how the levels end, whatever it is
module _ (b : Block) (Q : ℕ → Bool → Subgrid → Outcome → Type 0)
    (ended : (k : ℕ) (w : Bool) (s : Subgrid) → left b w s ≡ false → Q k w s none)
    (stop : (w : Bool) (s : Subgrid) → left b w s ≡ true → Q zero w s unmaskable)
    (next : (k : ℕ) (w : Bool) (s : Subgrid) (o : Outcome) → left b w s ≡ true → Q k (not w) (taken b w s) o → Q (suc k) w s (more (taken b w s) o)) where
  pub levels_ind : (k : ℕ) (w : Bool) (s : Subgrid) → Q k w s (levels b k w s)
  levels_ind zero w s = ⊎_elim (λ e. rw (levels_stop b w s e) (stop w s e)) (λ e. rw (levels_none b zero w s e) (ended zero w s e)) (true_or_false (left b w s))
  levels_ind (suc k) w s = ⊎_elim
      (λ e. rw (levels_next b k w s e) (next k w s (levels b k (not w) (taken b w s)) e (levels_ind k (not w) (taken b w s))))
      (λ e. rw (levels_none b (suc k) w s e) (ended (suc k) w s e))
      (true_or_false (left b w s))

-- ---- levels and walks

-- refused: there is a walk for one level more; masked by l levels: there are walks for up to l levels and no longer ones
abbrev Ends : Block → ℕ → Bool → Subgrid → Outcome → Type 0
Ends b k w s unmaskable = Long b w s k
Ends b k w s (masked l r c) = (l ≤ k) × ((m : ℕ) → Long b w s m ↔ (m < l))

ended : (b : Block) (k : ℕ) (w : Bool) (s : Subgrid) → left b w s ≡ false → Ends b k w s none
ended b k w s e = (omega arith, λ m. (λ h. clash ((long_zero b w s).0 (long_le b w s m zero (omega arith) h)) e, λ h. absurd (omega arith)))

next : (b : Block) (k : ℕ) (w : Bool) (s : Subgrid) (o : Outcome) → left b w s ≡ true → Ends b k (not w) (taken b w s) o → Ends b (suc k) w s (more (taken b w s) o)
next b k w s unmaskable e h = (long_suc b w s k).1 h
next b k w s (masked l r c) e h = (omega arith, go)
  where
    go : (m : ℕ) → Long b w s m ↔ (m < suc l)
    go zero = (λ _. omega arith, λ _. (long_zero b w s).1 e)
    go (suc m) = (λ x. let y : m < l = (h.1 m).0 ((long_suc b w s m).0 x) in omega arith, λ x. (long_suc b w s m).1 ((h.1 m).1 (omega arith)))

ends : (b : Block) (k : ℕ) → Ends b k true (whole b) (plan b k)
unfolding plan
ends b k = levels_ind b (Ends b) (ended b) (λ w s e. (long_zero b w s).1 e) (next b) k true (whole b)

-- ---- 1. refusal

pub chain_long : (b : Block) (k : ℕ) → HasChain b (2 * k + 1) ↔ Long b true (whole b) k
chain_long b k =
    let e : suc (twice k) ≡ 2 * k + 1 = omega (arith, twice_is k) in
    subst (λ n. HasChain b n ↔ Long b true (whole b) k) e (Iff.symm (long_whole b k))

pub refused_by_chain : RefusedByChain
refused_by_chain b k = (λ e. (chain_long b k).1 (subst (Ends b k true (whole b)) e (ends b k)), λ h. go (plan b k) (ends b k) ((chain_long b k).0 h))
  where
    go : (o : Outcome) → Ends b k true (whole b) o → Long b true (whole b) k → o ≡ unmaskable
    go unmaskable f h = refl
    go (masked l r c) f h = let y : k < l = (f.1 k).0 h in absurd (omega arith)

-- levels that mask the faults do so with more allowed
abbrev Kept : Block → ℕ → Bool → Subgrid → Outcome → Type 0
Kept b k w s unmaskable = Unit {0}
Kept b k w s (masked l r c) = (k' : ℕ) → k ≤ k' → levels b k' w s ≡ masked l r c

kept_next : (b : Block) (k : ℕ) (w : Bool) (s : Subgrid) (o : Outcome) → left b w s ≡ true → Kept b k (not w) (taken b w s) o → Kept b (suc k) w s (more (taken b w s) o)
kept_next b k w s unmaskable e h = tt
kept_next b k w s (masked l r c) e h = go
  where
    go : (k' : ℕ) → suc k ≤ k' → levels b k' w s ≡ more (taken b w s) (masked l r c)
    go zero q = absurd (omega arith)
    go (suc k') q = levels_next b k' w s e ∙ ap (more (taken b w s)) (h k' (omega arith))

pub more_allowed : MoreAllowed
unfolding plan
more_allowed b k k' l r c h e =
    subst (Kept b k true (whole b)) e (levels_ind b (Kept b) (λ k w s n k' _. levels_none b k' w s n) (λ w s _. tt) (kept_next b) k true (whole b)) k' h

-- ---- 2. the levels used

odd_chain : (b : Block) (n : ℕ) → HasChain b (2 * suc n - 1) ↔ Long b true (whole b) n
odd_chain b n =
    let e : 2 * n + 1 ≡ 2 * suc n - 1 = omega arith in
    subst (λ x. HasChain b x ↔ Long b true (whole b) n) e (chain_long b n)

module _ (b : Block) (l : ℕ) (h : (m : ℕ) → Long b true (whole b) m ↔ (m < l)) where
  one_level : SomeWrong b → 1 ≤ l
  one_level x = (h zero).0 ((some_wrong b).0 x)

  no_level : (l ≡ 0) ↔ (SomeWrong b → ⊥)
  no_level = (λ e x. omega (arith, one_level x), λ f. go l (λ p. f ((some_wrong b).1 ((h zero).1 p))))
    where
      go : (n : ℕ) → (0 < n → ⊥) → n ≡ 0
      go n f = omega (arith, f)

  longest : (n : ℕ) → l ≡ suc n → HasChain b (2 * l - 1)
  longest n e = rw e ((odd_chain b n).1 ((h n).1 (omega arith)))

  no_longer : (m : ℕ) → 1 ≤ m → HasChain b (2 * m - 1) → m ≤ l
  no_longer zero p x = omega arith
  no_longer (suc n) p x = (h n).0 ((odd_chain b n).0 x)

pub levels_by_chain : LevelsByChain
levels_by_chain b k l r c e =
    let (most, h) = subst (Ends b k true (whole b)) e (ends b k) in
    record {
      most = most;
      none = no_level b l h;
      reached = λ p. longest b l h (l - 1) (omega arith);
      greatest = no_longer b l h;
    }

pub one_depth : OneDepth
one_depth b k l l' x y =
    let p : l ≤ l' = at_most l l' x y in
    let q : l' ≤ l = at_most l' l y x in
    omega arith
  where
    at_most : (l l' : ℕ) → LevelsUsed b k l → LevelsUsed b k l' → l ≤ l'
    at_most zero l' x y = omega arith
    at_most (suc l) l' x y = y.greatest (suc l) (omega arith) (x.reached (omega arith))

pub no_chain_empty : NoChainEmpty
unfolding HasChain
no_chain_empty b ([], e, h) = h
no_chain_empty b (c ∷ cs, e, h) = absurd (omega arith)
