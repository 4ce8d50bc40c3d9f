-- Laws of a transfer by a script: what a step leaves, and that no second end is one. Assumes nothing.
use mathlib.Core.Path.{◌≡◌, refl, sym, ap, subst, ◌∙◌}
use mathlib.Core.List.{List, [], ◌∷◌, ◌++◌}
use Prim.Native.Nat.{ℕ, suc, ◌+◌, ◌-◌, ◌≤◌, ◌<◌, min}
use native.Mathlib.Numerals.{add-one}
use native.Mathlib.Omega.{arith}
use lib.Dec.{lit<}
use lib.ListN.{length, get_or, take, drop, set, length-take, length-drop, length-append, length-set}
use lib.Seq.{take-suc-set, take_all}
use Rattle.bits.proofs.FirstLaws.{first_under}
use Rattle.grid_promises.specs.declared.ReadAnswer.{ReadAnswer}
use Rattle.fragment_promises.specs.declared.Transfer.{Transfer}
use Rattle.fragment_promises.specs.Promises.{Start, Lump, Finishes}
use Rattle.fragment_promises.proofs.StepLaws.{one_start, one_lump}
use Rattle.fragment_promises.proofs.FinishLaws.{one_finish}
use Rattle.wire.proofs.PartLaws.{take_least}
use Rattle.calls.specs.Scripts.{next, Stepped, lump, start, finish, After, started, stepped, Scripted}

-- ---- numbers are bytes

pub start_small : (m n k x : ℕ) (u : Transfer) → Start m n k x u → x < 256
start_small m n k x u h = first_under 256 _ _ (lit< tt, lit< tt) h.demands.first

pub step_small : {bytes out after : List ℕ} {m n k b used used' x : ℕ} {t u : Transfer} → Stepped m n k bytes b t used out x u used' after → x < 256
step_small (lump _ l) = first_under 256 _ _ (lit< tt, (lit< tt, lit< tt)) l.demands.first
step_small (start _ h) = start_small _ _ _ _ _ h
step_small (finish _ f _) = first_under 256 _ _ (lit< tt, (lit< tt, (lit< tt, (lit< tt, (lit< tt, (lit< tt, lit< tt)))))) f.demands.first

-- ---- a step of the code

-- the part of the bytes that is lent
pub lump_part : (bytes : List ℕ) (used b c : ℕ) → used ≤ length bytes → c ≡ min b (length bytes - used) → take (used + c - used) (drop used bytes) ≡ next bytes used b
lump_part bytes used b c l e =
    let f : used + c - used ≡ min b (length (drop used bytes)) = omega (arith, length-drop used bytes) in
    take_least (drop used bytes) b (used + c - used) f

next_length : (bytes : List ℕ) (used b : ℕ) → length (next bytes used b) ≡ min b (length bytes - used)
next_length bytes used b = length-take b (drop used bytes) ∙ ap (min b) (length-drop used bytes)

pub lump_step : {m n k used b x : ℕ} {bytes out : List ℕ} {t u : Transfer} (c : ℕ) → b ≤ 253 → used ≤ length bytes → c ≡ min b (length bytes - used)
    → Lump t (take (used + c - used) (drop used bytes)) x u → Stepped m n k bytes b t used out x u (used + c) out
lump_step {m} {n} {k} {used} {b} {x} {bytes} {out} {t} {u} c p l e h =
    subst (λ more. Stepped m n k bytes b t used out x u (used + more) out) (next_length bytes used b ∙ sym e)
    (lump p (subst (λ bs. Lump t bs x u) (lump_part bytes used b c l e) h))

step_length : {bytes out after : List ℕ} {m n k b used used' x : ℕ} {t u : Transfer} → Stepped m n k bytes b t used out x u used' after → length after ≡ length out
step_length (lump _ _) = refl
step_length (start _ _) = refl
step_length (finish _ _ l) = l

-- ---- a start, and steps one after the other

-- a loop that goes through the script has made the first i steps; their numbers are at the front of `steps`
pub record Running (m n k : ℕ) (bytes script before out steps : List ℕ) (t : Transfer) (used i : ℕ) : Type 0 where
  pub within : i ≤ length script
  pub long : length out ≡ length before
  pub room : length steps ≡ length script + 1
  pub after : After m n k bytes script before i t used out (take (i + 1) steps)

module _ {m n k : ℕ} {bytes script before : List ℕ} where
  pub run_start : {x : ℕ} {u : Transfer} (steps : List ℕ) → length steps ≡ length script + 1 → Start m n k x u
      → Running m n k bytes script before before (set steps 0 x) u 0 0
  run_start {x} {u} steps l h = record {
    within = omega arith;
    long = refl;
    room = length-set steps 0 x ∙ l;
    after = subst (After m n k bytes script before 0 u 0 before) (sym (take-suc-set steps 0 x (omega arith))) (started h);
  }

  pub run_more : {i used used' x : ℕ} {out after steps : List ℕ} {t u : Transfer} → Running m n k bytes script before out steps t used i → i < length script
      → Stepped m n k bytes (get_or script i 0) t used out x u used' after → Running m n k bytes script before after (set steps (i + 1) x) u used' (i + 1)
  run_more {i} {used' = used'} {x} {after = after} {steps} {u = u} h l d =
      let here : take (i + 1 + 1) (set steps (i + 1) x) ≡ take (i + 1) steps ++ (x ∷ []) = ap (λ j. take j (set steps (i + 1) x)) (add-one (i + 1)) ∙ take-suc-set steps (i + 1) x (omega (arith, h.room)) in
      record {
        within = omega arith;
        long = step_length d ∙ h.long;
        room = length-set steps (i + 1) x ∙ h.room;
        after = rw here (subst (λ j. After m n k bytes script before j u used' after (take (i + 1) steps ++ (x ∷ []))) (sym (add-one i)) (stepped h.after l d));
      }

  -- ---- no second end

  pub run_done : {i used : ℕ} {out after steps : List ℕ} {t : Transfer} {a : ReadAnswer} → Running m n k bytes script before out steps t used i → length script ≤ i
      → Finishes t out a after → length after ≡ length out → Scripted m n k bytes script before a after steps
  run_done {i} {used} {out} {steps = steps} {t} h l f e =
      let all : i ≡ length script = omega (arith, h.within) in
      record {
        last = t;
        used = used;
        before = out;
        steps = subst (After m n k bytes script before (length script) t used out) (take_all (length script + 1) steps (omega (arith, h.room)))
            (subst (λ j. After m n k bytes script before j t used out (take (j + 1) steps)) all h.after);
        ends = f;
        long = e;
      }

one_step : {bytes out after after' : List ℕ} {m n k b used p p' x x' : ℕ} {t u u' : Transfer} → Stepped m n k bytes b t used out x u p after
    → Stepped m n k bytes b t used out x' u' p' after' → (x ≡ x') × (u ≡ u') × (p ≡ p') × (after ≡ after')
one_step (lump _ h) (lump _ g) = let (e, f) = one_lump _ _ _ _ _ _ h g in (e, f, refl, refl)
one_step (start _ h) (start _ g) = let (e, f) = one_start _ _ _ _ _ _ _ h g in (e, f, refl, refl)
one_step (finish _ h _) (finish _ g _) = let (e, f) = one_finish _ _ _ _ _ _ _ _ _ _ h.exactly g.exactly in (ap (λ a. a.number) e, refl, refl, f)
one_step (lump l _) (start e _) = absurd (omega arith)
one_step (lump l _) (finish e _ _) = absurd (omega arith)
one_step (start e _) (lump l _) = absurd (omega arith)
one_step (start e _) (finish f _ _) = absurd (omega arith)
one_step (finish e _ _) (lump l _) = absurd (omega arith)
one_step (finish e _ _) (start f _) = absurd (omega arith)

-- from equal records, with as many bytes used and equal outputs
one_step_from : {m n k b used used' p p' x x' : ℕ} {bytes out out' after after' : List ℕ} {t t' u u' : Transfer} → t ≡ t' → used ≡ used' → out ≡ out'
    → Stepped m n k bytes b t used out x u p after → Stepped m n k bytes b t' used' out' x' u' p' after' → (x ≡ x') × (u ≡ u') × (p ≡ p') × (after ≡ after')
one_step_from {m} {n} {k} {b} {p = p} {x = x} {bytes = bytes} {after = after} {u = u} e f o d g =
    one_step (subst (λ X. X) (λ j. Stepped m n k bytes b (e j) (f j) (o j) x u p after) d) g

module _ {m n k : ℕ} {bytes script out : List ℕ} where
  one_after : {i used used' : ℕ} {t t' : Transfer} {now now' numbers numbers' : List ℕ} → After m n k bytes script out i t used now numbers
      → After m n k bytes script out i t' used' now' numbers' → (t ≡ t') × (used ≡ used') × (now ≡ now') × (numbers ≡ numbers')
  one_after (started h) (started g) = let (e, f) = one_start _ _ _ _ _ _ _ h g in (f, refl, refl, λ j. e j ∷ [])
  one_after (stepped a _ d) (stepped b _ g) =
      let (e, f, o, l) = one_after a b in
      let (x, u, p, z) = one_step_from e f o d g in
      (u, p, z, λ j. l j ++ (x j ∷ []))

  pub one_script : {a a' : ReadAnswer} {after after' numbers numbers' : List ℕ} → Scripted m n k bytes script out a after numbers → Scripted m n k bytes script out a' after' numbers'
      → (a ≡ a') × (after ≡ after') × (numbers ≡ numbers')
  one_script {a} {after = after} s s' =
      let (e, f, o, l) = one_after s.steps s'.steps in
      let moved = subst (λ X. X) (λ j. Finishes (e j) (o j) a after) s.ends in
      let (same, filled) = one_finish _ _ _ _ _ _ _ _ _ _ moved.exactly s'.ends.exactly in
      (same, filled, l)

-- ---- how long the output and the numbers are

after_lengths : {m n k : ℕ} {bytes script out : List ℕ} {i used : ℕ} {now numbers : List ℕ} {t : Transfer} → After m n k bytes script out i t used now numbers
    → (length now ≡ length out) × (length numbers ≡ suc i)
after_lengths (started h) = (refl, refl)
after_lengths (stepped {numbers = numbers} a _ d) =
    let (e, f) = after_lengths a in (step_length d ∙ e, length-append numbers _ ∙ omega (arith, f))

pub scripted_lengths : {m n k : ℕ} {bytes script out after numbers : List ℕ} {a : ReadAnswer} → Scripted m n k bytes script out a after numbers
    → (length after ≡ length out) × (length numbers ≡ suc (length script))
scripted_lengths s = let (e, f) = after_lengths s.steps in (s.long ∙ e, f)
