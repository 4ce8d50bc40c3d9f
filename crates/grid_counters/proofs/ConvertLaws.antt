-- What a code proof cites of a conversion: from what was judged, by planes, to the whole promise. Assumes nothing.
use Prim.Native.Nat.{ℕ, ◌+◌, ◌^◌, ◌≤◌, ◌<◌}
use mathlib.Core.Path.{◌≡◌, refl, sym, ap, ◌∙◌}
use mathlib.Core.Bool.{Bool, true, false, not, cond, and-false}
use mathlib.Core.List.{List}
use mathlib.Core.Logic.{⊎_elim}
use native.Mathlib.Omega.{arith}
use borrow.Author.Tests.{le-ltb}
use lib.Dec.{ltb}
use lib.ListN.{length, get_or}
use lib.Pow.{pow_pos}
use Rattle.std.specs.Prelude.{Result, Ok, Err}
use Rattle.refusals.specs.declared.Refusal.{Refusal}
use Rattle.refusals.specs.declared.Refusal.TheVariants.{WrongLength, BitPastEnd, AboveK}
use Rattle.bits.specs.Bits.{some, first, Below}
use Rattle.bits.proofs.TestLaws.{clash, lt_or_le, true_or_false, and_in}
use Rattle.bits.proofs.BoundLaws.{first_found, first_is, some_in, some_out, some_none, none_below}
use Rattle.bits.proofs.ByteLaws.{below_all, past_end}
use Rattle.rdis.specs.Packing.{width, unpacked, counter, above, first_above, spare_clear}
use Rattle.rdis.proofs.PackingLaws.{counter_past, counter_unpacked, length_unpacked, width_some}
use Rattle.grid_sets.specs.declared.Threes.{Threes}
use Rattle.grid_sets.specs.Sets.{sets_of}
use Rattle.grid_sets.specs.Planes.{AreThrees}
use Rattle.grid_sets.specs.Promises.{roomy, packable, counters_judged, convertible, convert_judged, Convert}
use Rattle.grid_sets.proofs.RoomLaws.{Room, is_roomy_lem, packs, none_above_k}
use Rattle.grid_packing.specs.Promises.{FillsPlanes}
use Rattle.grid_packing.proofs.FillLaws.{stored_packed}
use Rattle.grid_counters.specs.Steps.{clear_judged, spare_judged, lines_judged}
use Rattle.grid_counters.proofs.JudgeLaws.{high_judged, above_judged, lines_are}
use Rattle.grid_counters.proofs.PromiseLaws.{counter_few}

-- what an accepted judgment says of the test in it
is_clear : (s : Bool) → clear_judged s ≡ Ok tt → s ≡ true
is_clear true e = refl
is_clear false e = cc

not_high : (h : Bool) (t : ℕ) → high_judged h t ≡ Ok tt → h ≡ false
not_high true t e = cc
not_high false t e = refl

spare_err : (s : Bool) (e : Refusal) (j : Result (Unit {0}) Refusal) → clear_judged s ≡ Err e → Err e ≡ cond (not s) (Err BitPastEnd) j
spare_err true e j h = cc
spare_err false e j h = sym h

module _ (k k' m n : ℕ) (bs before : List ℕ) where
  not_convertible : convertible k k' m n (length bs) (length before) ≡ false → Convert k k' m n bs before (Err WrongLength) before
  unfolding convert_judged
  not_convertible h = record { judged = rw h; bytes = tt; untouched = refl }

  -- refused for the bytes' length, and for the output's or the target
  pub not_held : roomy k m n (length bs) ≡ false → Convert k k' m n bs before (Err WrongLength) before
  unfolding convertible
  not_held h = not_convertible (rw h)

  pub not_packable : packable k' m n k (length before) ≡ false → Convert k k' m n bs before (Err WrongLength) before
  unfolding convertible
  not_packable h = not_convertible (rw h (and-false (roomy k m n (length bs))))

  module _ (room : Room k m n (length bs)) (fits : packable k' m n k (length before) ≡ true) where
    can : convertible k k' m n (length bs) (length before) ≡ true
    unfolding convertible
    can = and_in (is_roomy_lem k m n (length bs) room) fits

    refused : (e : Refusal) → Err e ≡ counters_judged k (m + n) bs → Convert k k' m n bs before (Err e) before
    unfolding convert_judged
    refused e h = record { judged = rw can h; bytes = tt; untouched = refl }

    -- refused for a spare bit
    pub convert_spare : (e : Refusal) → spare_judged (width k) (m + n) bs ≡ Err e → Convert k k' m n bs before (Err e) before
    unfolding counters_judged
    convert_spare e h = refused e (spare_err (spare_clear (width k) (m + n) bs) e _ h)

    abbrev f : ℕ → ℕ
    f = counter (width k) bs

    -- where no spare bit is 1, all 128 counters are judged as the block's are
    module _ (spare : spare_judged (width k) (m + n) bs ≡ Ok tt) where
      clear : spare_clear (width k) (m + n) bs ≡ true
      clear = is_clear (spare_clear (width k) (m + n) bs) spare

      inside : (t : ℕ) → ltb k (f t) ≡ true → t < m + n
      inside t h = ⊎_elim (λ l. l) (λ l. clash h (le-ltb k (f t) (omega (arith, counter_past (width k) (m + n) t bs clear l)))) (lt_or_le t (m + n))

      few : m + n ≤ 128
      few = omega (arith, room.rows, room.columns)

      same_above : some 128 (λ t. ltb k (f t)) ≡ above k (m + n) bs
      unfolding above
      same_above = ⊎_elim
          (λ h. let (t, l, e) = some_out 128 (λ t. ltb k (f t)) h in h ∙ sym (some_in (m + n) (λ t. ltb k (f t)) t (inside t e) e))
          (λ h. h ∙ sym (some_none (m + n) _ (λ t l. none_below 128 (λ t. ltb k (f t)) h t (omega (arith, few)))))
          (true_or_false (some 128 (λ t. ltb k (f t))))

      same_first : above k (m + n) bs ≡ true → first 128 (λ t. ltb k (f t)) ≡ first_above k (m + n) bs
      unfolding above first_above
      same_first h =
          let (t, l, e) = some_out (m + n) (λ t. ltb k (f t)) h in
          let g = first_found (m + n) (λ t. ltb k (f t)) t l e in
          first_is 128 (λ t. ltb k (f t)) _ (record { inside = omega (arith, g.inside, few); passes = g.passes; before = g.before })

      same_judged : (h : Bool) → above k (m + n) bs ≡ h → above_judged 128 k f ≡ high_judged h (first_above k (m + n) bs)
      same_judged true e = rw (same_above, e) (ap (λ t. Err (AboveK t)) (same_first e))
      same_judged false e = rw (same_above, e)

      -- the lines above K of the first 64 of all counters, and of the others
      module _ (x y : ℕ) (ex : x ≡ get_or (sets_of 64 f) k 0) (ey : y ≡ get_or (sets_of 64 (λ i. f (64 + i))) k 0) (j : Result (Unit {0}) Refusal) (e : lines_judged x y 64 ≡ j) where
        lines : j ≡ high_judged (above k (m + n) bs) (first_above k (m + n) bs)
        lines = sym e ∙ rw (ex, ey) (lines_are 64 64 k f (counter_few k bs) (omega arith) (omega arith)) ∙ same_judged (above k (m + n) bs) refl

        verdict : j ≡ counters_judged k (m + n) bs
        unfolding counters_judged
        verdict = rw clear lines

      -- refused for a counter above K
      pub convert_above : (x y : ℕ) → x ≡ get_or (sets_of 64 f) k 0 → y ≡ get_or (sets_of 64 (λ i. f (64 + i))) k 0 → (e : Refusal) → lines_judged x y 64 ≡ Err e
          → Convert k k' m n bs before (Err e) before
      convert_above x y ex ey e h = refused e (verdict x y ex ey (Err e) h)

      -- accepted
      module _ (x y : ℕ) (ex : x ≡ get_or (sets_of 64 f) k 0) (ey : y ≡ get_or (sets_of 64 (λ i. f (64 + i))) k 0) (e : lines_judged x y 64 ≡ Ok tt) where
        abbrev numbers : List ℕ
        numbers = unpacked (width k) (m + n) bs

        none : above k (m + n) bs ≡ false
        none = not_high (above k (m + n) bs) _ (sym (lines x y ex ey (Ok tt) e))

        -- no counter is above K, so the target's bits hold them all
        fit : Below (2 ^ width k') numbers
        fit = below_all (m + n) (2 ^ width k') numbers (pow_pos (width k')) (length_unpacked (width k) (m + n) bs)
            (λ t l. omega (arith, counter_unpacked (width k) (m + n) t bs l, none_above_k k (m + n) bs none t l, (packs k' m n k (length before) fits).0))

        -- and past the last of them are zeros
        same : (t : ℕ) → get_or numbers t 0 ≡ f t
        same t = ⊎_elim (counter_unpacked (width k) (m + n) t bs)
            (λ l. past_end numbers t (omega (arith, length_unpacked (width k) (m + n) bs)) ∙ sym (counter_past (width k) (m + n) t bs clear l)) (lt_or_le t (m + n))

        pub convert_done : (first second : Threes) → AreThrees 64 f first → AreThrees 64 (λ i. f (64 + i)) second → (after : List ℕ)
            → length after ≡ length before → FillsPlanes (width k') first second before after → Convert k k' m n bs before (Ok tt) after
        unfolding convert_judged
        convert_done first second a b after l s = record {
          judged = rw can (verdict x y ex ey (Ok tt) e);
          bytes =
              stored_packed (width k') (m + n) numbers f after (width_some k') few (length_unpacked (width k) (m + n) bs) fit same
              (l ∙ (packs k' m n k (length before) fits).1.size) (s.fills f a b);
          untouched = tt;
        }
