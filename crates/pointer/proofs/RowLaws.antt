-- From what is decoded and planned to the promises of the two calls. Assumes nothing.
use mathlib.Core.Path.{◌≡◌, refl, sym, ap, ap₂, ◌∙◌}
use mathlib.Core.Bool.{Bool, true, false, not, xor, cond, ◌&&◌}
use mathlib.Core.List.{List, ◌++◌, map}
use mathlib.Core.Logic.{◌⊎◌, ⊎_elim}
use Prim.Native.Nat.{ℕ, ◌+◌, ◌-◌, ◌≤◌, ◌<◌}
use native.Mathlib.Omega.{arith}
use borrow.Author.Tests.{eqb-true, lt-ltb, le-ltb}
use lib.Dec.{eqb, ltb}
use lib.ListN.{length, length-append, length-map}
use Rattle.bits.specs.Bits.{list, at, bytes, Below}
use Rattle.bits.proofs.TestLaws.{and_right}
use Rattle.pointer_promises.specs.Pointer.{size, entry, active, spare, formed, held, repeats, shown, unserved, positions, renewed, after, active_after, stored, or_else, measured, verdict, read_number, needed, write_judged, write_number}
use Rattle.pointer_promises.specs.Promises.{Read, Write}
use Rattle.pointer.specs.Steps.{digit, digit_bit, Digits, Counted, arranged, shared, Found, unserved_at, Planned, TooMany, Made}
use Rattle.refusals.specs.Numbers.{number}
use Rattle.refusals.specs.declared.Refusal.{Refusal}
use Rattle.pointer_promises.proofs.PositionLaws.{length_positions, positions_ext}
use Rattle.pointer_promises.proofs.MetadataLaws.{length_held}
use Rattle.pointer_promises.proofs.NumberLaws.{measured_low, measured_high}
use Rattle.pointer_promises.proofs.WrittenLaws.{after_below}
use Rattle.pointer_promises.proofs.Demands.{read_refused_lem, read_accepted, write_refused, write_accepted}
use Rattle.pointer.proofs.EncodeLaws.{digits_below, encoded}
use Rattle.refusals.proofs.NumberLaws.{not_zero}
use Rattle.pointer.proofs.RefusalLaws.{at_first, at_second}

-- ---- n, the lengths and the metadata

pub measured_out : (n : ℕ) (fixed : Bool) (m : ℕ) → (n < 1) ⊎ (10 < n) → 1 ≡ measured n fixed m
measured_out n fixed m h = ⊎_elim (measured_low n fixed m) (measured_high n fixed m) h

-- ---- what is wrong with the metadata

-- the verdict in its two parts
pub verdict_parts : (n : ℕ) (m : List ℕ) → or_else (arranged n m) (shared n m) ≡ verdict n m
unfolding verdict
verdict_parts n m = go (spare n m) (formed n m)
  where
    go : (s t : Bool) → or_else (cond s 3 (cond t 0 4)) (cond (repeats (held n m)) 5 0) ≡ cond s 3 (cond t (cond (repeats (held n m)) 5 0) 4)
    go true t = refl
    go false true = refl
    go false false = refl

-- what is wrong with metadata of the right length, or nothing
module _ (n : ℕ) (fixed : Bool) (m : List ℕ) (z : 0 ≡ measured n fixed (length m)) where
  pub found_arranged : (e : Refusal) → number e ≡ arranged n m → number e ≡ or_else (measured n fixed (length m)) (verdict n m)
  found_arranged e h = at_second (number e) _ _ z (at_first e (arranged n m) (shared n m) h ∙ verdict_parts n m)

  pub found_shared : (k : ℕ) → 0 ≡ arranged n m → k ≡ shared n m → k ≡ or_else (measured n fixed (length m)) (verdict n m)
  found_shared k y h = at_second k _ _ z (at_second k (arranged n m) (shared n m) y h ∙ verdict_parts n m)

-- ---- the row that is found

module _ (n : ℕ) (fixed : Bool) (m : List ℕ) (n' : ℕ) (m' : List ℕ) (a : ℕ) (served : List ℕ) (c : Counted n' m' a) (f : Found n fixed m n' m' served) where
  pub is_held : list a (entry m') ≡ held n m
  unfolding held
  is_held = ap (λ x. list x (entry m')) c.count ∙ ap₂ held f.entries f.bytes

-- ---- a read

module _ (n : ℕ) (cells m out : List ℕ) where
  pub read_refusal : (e : Refusal) (k : ℕ) → k ≡ number e → number e ≡ or_else (measured n (eqb (length cells) 64 && eqb (length out) 64) (length m)) (verdict n m)
      → Read n cells m out (record { number = k }) out
  unfolding read_number
  read_refusal e k h d = read_refused_lem n k cells m out (h ∙ d) (λ z. not_zero e (sym h ∙ z))

  pub read_shown : (n' : ℕ) (m' : List ℕ) (a : ℕ) (served out' : List ℕ) → 0 ≡ or_else (measured n (eqb (length cells) 64 && eqb (length out) 64) (length m)) (verdict n m)
      → Counted n' m' a → Found n (eqb (length cells) 64 && eqb (length out) 64) m n' m' served
      → out' ≡ bytes 64 (λ p. shown (list a (entry m')) p (at cells p)) → Read n cells m out (record { number = 0 }) out'
  unfolding read_number
  read_shown n' m' a served out' d c f h = read_accepted n cells m out out' d (h ∙ ap (λ l. bytes 64 (λ p. shown l p (at cells p))) (is_held n _ m n' m' a served c f))

-- ---- what a write is to store

module _ (n : ℕ) (wanted mask values : List ℕ) (cells : ℕ) (m : List ℕ) where
  abbrev sized : Bool
  sized = eqb (length wanted) 64 && eqb (length mask) 64 && eqb (length values) 64 && eqb cells 64

  pub made_judged : (e : Refusal) → number e ≡ or_else (measured n sized (length m)) (verdict n m) → number e ≡ write_number n wanted mask values cells m
  unfolding write_number write_judged
  made_judged e h = at_first e (write_judged n wanted mask values cells m) _ h

  module _ (n' : ℕ) (m' : List ℕ) (a : ℕ) (served : List ℕ) (d : 0 ≡ or_else (measured n sized (length m)) (verdict n m)) (c : Counted n' m' a) (f : Found n sized m n' m' served) where
    -- the plan's entries, without the bits
    row : List ℕ
    row = held n m ++ positions 512 (unserved wanted mask values (held n m))

    abbrev planned_row : List ℕ
    planned_row = list a (entry m') ++ positions 512 (unserved_at wanted mask values served)

    is_row : planned_row ≡ row
    unfolding row unserved
    is_row =
        ap₂ ◌++◌ (is_held n sized m n' m' a served c f)
        (positions_ext 512 (unserved_at wanted mask values served) (unserved wanted mask values (held n m))
        (λ q _. ap (λ t. at mask q && xor (at wanted q) (at values q) && not t) (f.marks.bits q)))

    length_row : length planned_row ≡ active n m + needed wanted mask values (held n m)
    unfolding row needed
    length_row =
        ap length is_row ∙ length-append (held n m) (positions 512 (unserved wanted mask values (held n m)))
        ∙ ap₂ ◌+◌ (length_held n m) (length_positions (unserved wanted mask values (held n m)) 512)

    is_active : a ≡ active n m
    is_active = c.count ∙ ap₂ active f.entries f.bytes

    planned_number : cond (ltb n (length planned_row)) 6 0 ≡ write_number n wanted mask values cells m
    unfolding write_number write_judged
    planned_number = at_second _ (write_judged n wanted mask values cells m) _ d (ap (λ x. cond (ltb n x) 6 0) length_row)

    pub made_full : TooMany n' (unserved_at wanted mask values served) (list a (entry m')) → 6 ≡ write_number n wanted mask values cells m
    made_full p = ap (λ t. cond t 6 0) (sym (lt-ltb n _ (omega (arith, p.over, f.entries)))) ∙ planned_number

    module _ (b : ℕ) (fs : List ℕ) (p : Planned n' wanted (unserved_at wanted mask values served) (list a (entry m')) b fs) where
      pub planned_few : a ≤ b
      planned_few = omega (arith, p.count, length_row, is_active)

      pub made_number : 0 ≡ write_number n wanted mask values cells m
      made_number = ap (λ t. cond t 6 0) (sym (le-ltb n _ (omega (arith, p.count, p.few, f.entries)))) ∙ planned_number

      pub made_planned : (ds : List ℕ) → Digits n' fs b ds → Made n wanted mask values cells m wanted mask values b (b - a) ds
      unfolding active_after after row
      made_planned ds g = record {
        wants = refl;
        masks = refl;
        holds = refl;
        stores = eqb-true cells 64 (and_right _ (eqb cells 64) f.sized);
        most = omega (arith, c.most, f.entries);
        notes = sym (ap length f.bytes) ∙ c.long ∙ ap size f.entries;
        count = p.count ∙ ap length is_row ∙ sym (length-map row (renewed wanted));
        adds = omega (arith, p.count, length_row, is_active);
        digits = λ i. g wanted _ (sym p.count) p.noted i ∙ ap₂ (λ x l. digit x (map (renewed wanted) l) i) f.entries is_row;
      }

-- ---- a write

module _ (n : ℕ) (wanted mask values cells m : List ℕ) where
  pub write_refusal : (e : Refusal) (k : ℕ) → k ≡ number e → number e ≡ write_number n wanted mask values (length cells) m
      → Write n wanted mask values cells m (record { number = k; active = 0; new = 0 }) cells m
  write_refusal e k h d = write_refused n wanted mask values cells m k (h ∙ d) (λ z. not_zero e (sym h ∙ z))

  module _ (w k v : List ℕ) (b c : ℕ) (ds : List ℕ) (p : Made n wanted mask values (length cells) m w k v b c ds) where
    pub write_small : Below 1024 ds × (length m ≤ 13)
    write_small = (digits_below n (after wanted mask values (held n m)) ds (after_below wanted mask values (held n m)) p.digits, omega (arith, p.most, p.notes))

    pub write_made : (cells' m' : List ℕ) → 0 ≡ write_number n wanted mask values (length cells) m → Below 256 wanted → cells' ≡ bytes 64 (stored w k v) → m' ≡ bytes (length m) (digit_bit ds)
        → Write n wanted mask values cells m (record { number = 0; active = b; new = c }) cells' m'
    write_made cells' m' d u hc hm =
        write_accepted n wanted mask values cells m b c cells' m' d u p.count p.adds
        (hc ∙ ap (bytes 64) (ap₂ (λ x y. stored x y v) p.wants p.masks ∙ ap (stored wanted mask) p.holds))
        (encoded n (length m) (after wanted mask values (held n m)) ds m' p.notes p.digits hm)
