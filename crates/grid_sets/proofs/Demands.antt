-- What was written is read back, and no second answer meets a promise. Assumes nothing.
use Prim.Native.Nat.{suc, ◌+◌}
use mathlib.Core.Path.{◌≡◌, refl, sym, ap, subst, ◌∙◌}
use mathlib.Core.Bool.{Bool, true, false}
use native.Mathlib.Omega.{arith}
use borrow.Author.Tests.{le-ltb}
use lib.ListN.{length}
use Rattle.std.specs.Prelude.{Result, Ok, Err, OnOk, OnErr}
use Rattle.refusals.specs.Numbers.{number_of, index_of}
use Rattle.refusals.specs.declared.Refusal.{Refusal}
use Rattle.bits.proofs.BoundLaws.{some_none}
use Rattle.bits.proofs.TestLaws.{clash}
use Rattle.rdis.specs.Packing.{width, in_order, packed, unpacked, counter, row_counter, column_counter, above}
use Rattle.rdis.specs.Theorems.{Packs}
use Rattle.rdis.proofs.PackingLaws.{packed_only, counter_packed, counters_back, length_in_order, in_order_below}
use Rattle.grid_sets.specs.Sets.{times}
use Rattle.grid_sets.proofs.SetLaws.{sets_ext}
use Rattle.grid_sets.specs.Promises.{roomy, counters_judged, unpack_judged, packable, ReadsBack, OneUnpack, OnePack, OneConvert, OneUnpackInNumbers, OneConvertInNumbers}
use Rattle.grid_sets.proofs.RoomLaws.{packs, is_roomy_lem, times_few, counters_fit}

pub reads_back_lem : ReadsBack
unfolding unpack_judged counters_judged above
reads_back_lem k m n used rows columns before after few fits p =
    let (bits, room) = packs k m n used (length before) fits in
    let r = times rows used in
    let c = times columns used in
    let cs = in_order m n r c in
    let long = length_in_order m n r c in
    let below = counters_fit k m n used rows columns bits in
    let is = p.bytes fits in
    let q : Packs (width k) (m + n) cs after = (packed_only (width k) (m + n) cs after long below).1 is in
    let held : roomy k m n (length after) ≡ true = is_roomy_lem k m n (length after) (record { rows = room.rows; columns = room.columns; size = q.size }) in
    let least = in_order_below m n r c (suc used) (omega arith) (λ i _. omega (arith, times_few rows used i)) (λ j _. omega (arith, times_few columns used j)) in
    let none = some_none (m + n) _ (λ t l. le-ltb k (counter (width k) after t) (omega (arith, least t, ap (λ bs. counter (width k) bs t) is ∙ counter_packed (width k) t cs below (omega (arith, long))))) in
    let (x, y) = counters_back (width k) m n r c (λ i _. omega (arith, times_few rows used i)) (λ j _. omega (arith, times_few columns used j)) in
    record {
      judged = sym (rw (held, q.spare, none));
      no_rows = λ h. clash held h;
      no_columns = λ h. clash held h;
      row_sets = λ _. sets_ext m r (row_counter (width k) after) (λ i l. sym (ap (λ bs. row_counter (width k) bs i) is ∙ x i l));
      column_sets = λ _. sets_ext n c (column_counter (width k) m after) (λ j l. sym (ap (λ bs. column_counter (width k) m bs j) is ∙ y j l));
    }

either : {A : Type 0} (t : Bool) → (t ≡ true → A) → (t ≡ false → A) → A
either true f g = f refl
either false f g = g refl

pub one_unpack : OneUnpack
one_unpack k m n bs c c' p q =
    let same : c.judged ≡ c'.judged = p.judged ∙ sym q.judged in
    let rows : c.rows ≡ c'.rows = either (roomy k m n (length bs)) (λ h. p.row_sets h ∙ sym (q.row_sets h)) (λ h. p.no_rows h ∙ sym (q.no_rows h)) in
    let columns : c.columns ≡ c'.columns = either (roomy k m n (length bs)) (λ h. p.column_sets h ∙ sym (q.column_sets h)) (λ h. p.no_columns h ∙ sym (q.no_columns h)) in
    λ i. record { judged = same i; rows = rows i; columns = columns i }

pub one_pack : OnePack
one_pack k m n used rows columns before after after' p q =
    either (packable k m n used (length before)) (λ h. p.bytes h ∙ sym (q.bytes h)) (λ h. p.untouched h ∙ sym (q.untouched h))

-- what is said of both answers is said of each
by_answer : {P : Type 0} (c : Result (Unit {0}) Refusal) → OnOk c P → OnErr c P → P
by_answer (Ok u) p q = p
by_answer (Err e) p q = q

on_both : {P Q R : Type 0} (c : Result (Unit {0}) Refusal) → (P → Q → R) → OnOk c P → OnOk c Q → OnOk c R
on_both (Ok u) f p q = f p q
on_both (Err e) f p q = tt

on_neither : {P Q R : Type 0} (c : Result (Unit {0}) Refusal) → (P → Q → R) → OnErr c P → OnErr c Q → OnErr c R
on_neither (Ok u) f p q = tt
on_neither (Err e) f p q = f p q

pub one_convert : OneConvert
one_convert k k' m n bs before c c' after after' p q =
    let same : c' ≡ c = q.judged ∙ sym p.judged in (
      sym same,
      by_answer c
          (on_both c (λ x y. x ∙ sym y) p.bytes (subst (λ d. OnOk d (after' ≡ packed (width k') (unpacked (width k) (m + n) bs))) same q.bytes))
          (on_neither c (λ x y. x ∙ sym y) p.untouched (subst (λ d. OnErr d (after' ≡ before)) same q.untouched)),
    )

pub one_unpack_in_numbers : OneUnpackInNumbers
one_unpack_in_numbers k m n bs c c' p q =
    let e : c ≡ c' = one_unpack k m n bs c c' p q in
    (ap (λ x. number_of x.judged) e, ap (λ x. index_of x.judged) e, ap (λ x. x.rows) e, ap (λ x. x.columns) e)

pub one_convert_in_numbers : OneConvertInNumbers
one_convert_in_numbers k k' m n bs before c c' after after' p q =
    let (e, f) = one_convert k k' m n bs before c c' after after' p q in
    (ap number_of e, ap index_of e, f)
