-- What the active entries name, which positions are unserved and how many: the definitions say what the refusals' facts say. Assumes nothing.
use mathlib.Core.Path.{◌≡◌, refl, sym, ap, ◌∙◌}
use mathlib.Core.Bool.{Bool, true, false}
use mathlib.Core.List.{List}
use mathlib.Core.Logic.Iff
use mathlib.Core.Logic.{◌↔◌}
use Prim.Native.Nat.{ℕ, ◌+◌, ◌*◌, ◌<◌}
use native.Mathlib.Omega.{arith}
use lib.ListN.{length, get_or}
use Rattle.bits.specs.Bits.{num, sum, has, at}
use Rattle.bits.proofs.TestLaws.{not_iff, and_iff, xor_iff, false_iff}
use Rattle.bits.proofs.BoundLaws.{sum_rising}
use Rattle.bits.proofs.BitLaws.{has_low, has_ext}
use Rattle.pointer_promises.specs.Pointer.{pointer, replacement, entry, active, held, names, repeats, shown, unserved, positions, needed}
use Rattle.pointer_promises.specs.Refusals.{InRange, Active, WellFormed, Names, NamedTwice, Unserved, NoneLeft}
use Rattle.pointer_promises.proofs.EntryLaws.{Twice, names_iff, repeats_iff, shown_unnamed, shown_named}
use Rattle.pointer_promises.proofs.MetadataLaws.{has_entry, length_held, get_or_held}
use Rattle.pointer_promises.proofs.PositionLaws.{length_positions, rising}
use Rattle.pointer_promises.proofs.FormedLaws.{active_is, active_said}

-- ---- the pointer of an entry, bit by bit

pointer_bit : (m : List ℕ) (e k : ℕ) → k < 9 → has (pointer (entry m e)) k ≡ at m (1 + 10 * e + k)
pointer_bit m e k l = has_low 9 (entry m e) k l ∙ has_entry m e k (omega arith)

pointer_iff : (m : List ℕ) (e p : ℕ) → p < 512 → (pointer (entry m e) ≡ p) ↔ Names m e p
pointer_iff m e p l = (
  λ h k q. sym (pointer_bit m e k q) ∙ ap (λ x. has x k) h,
  λ h. has_ext 9 (pointer (entry m e)) p (omega arith) l (λ k q. pointer_bit m e k q ∙ h k q),
)

-- ---- of well-formed metadata

module _ (n : ℕ) (m : List ℕ) (range : InRange n) (formed : WellFormed n m) where
  pub twice_iff : (repeats (held n m) ≡ true) ↔ NamedTwice n m
  twice_iff = Iff.trans (repeats_iff (held n m)) (there, back)
    where
      there : Twice (held n m) → NamedTwice n m
      there (i, j, d, l, h) =
          let k : j < active n m = omega (arith, length_held n m) in
          record {
            a = active n m;
            e = i;
            f = j;
            p = pointer (entry m i);
            counted = active_said n m range formed;
            differ = d;
            actives = k;
            first = (pointer_iff m i (pointer (entry m i)) (omega arith)).0 refl;
            second = (pointer_iff m j (pointer (entry m i)) (omega arith)).0 (sym (ap pointer (get_or_held n m j k)) ∙ h ∙ ap pointer (get_or_held n m i (omega arith)));
          }

      back : NamedTwice n m → Twice (held n m)
      back r =
          let q : active n m ≡ r.a = active_is n m range r.a r.counted in
          let same : pointer (entry m r.f) ≡ pointer (entry m r.e) =
          has_ext 9 (pointer (entry m r.f)) (pointer (entry m r.e)) (omega arith) (omega arith)
          (λ k l. pointer_bit m r.f k l ∙ r.second k l ∙ sym (r.first k l) ∙ sym (pointer_bit m r.e k l)) in (
            r.e,
            r.f,
            r.differ,
            omega (arith, length_held n m, r.actives),
            ap pointer (get_or_held n m r.f (omega (arith, r.actives))) ∙ same ∙ sym (ap pointer (get_or_held n m r.e (omega (arith, r.actives, r.differ)))),
          )

  named_iff : (p : ℕ) → p < 512 → (names (held n m) p ≡ true) ↔ ((e : ℕ) × (e < active n m) × Names m e p)
  named_iff p l = Iff.trans (names_iff (held n m) p) (
    λ (e, k, h). let g : e < active n m = omega (arith, length_held n m) in (e, g, (pointer_iff m e p l).0 (sym (ap pointer (get_or_held n m e g)) ∙ h)),
    λ (e, g, h). (e, omega (arith, length_held n m), ap pointer (get_or_held n m e g) ∙ (pointer_iff m e p l).1 h),
  )

  pub shown_cell : (a p : ℕ) (v : Bool) → Active n m a → p < 512 → ((e : ℕ) → e < a → Names m e p → ⊥) → shown (held n m) p v ≡ v
  shown_cell a p v s l u =
      let q : active n m ≡ a = active_is n m range a s in shown_unnamed (held n m) p v (false_iff _ (named_iff p l) (λ (e, g, h). u e (omega arith) h))

  pub shown_entry : (a e p : ℕ) (v : Bool) → repeats (held n m) ≡ false → Active n m a → e < a → p < 512 → Names m e p → shown (held n m) p v ≡ at m (1 + 10 * e + 9)
  shown_entry a e p v d s l k h =
      let q : active n m ≡ a = active_is n m range a s in
      let g : get_or (held n m) e 0 ≡ entry m e = get_or_held n m e (omega arith) in
      shown_named (held n m) e p v d (omega (arith, length_held n m)) (ap pointer g ∙ (pointer_iff m e p k).1 h) ∙ ap replacement g ∙ has_entry m e 9 (omega arith)

  module _ (wanted mask values : List ℕ) where
    pub unserved_iff : (p : ℕ) → p < 512 → (unserved wanted mask values (held n m) p ≡ true) ↔ Unserved wanted mask values m (active n m) p
    unfolding unserved
    unserved_iff p l =
        Iff.trans (and_iff _ (and_iff _ (λ h. h, λ h. h) _ (xor_iff (at wanted p) (at values p))) _ (not_iff _ (named_iff p l))) (
          λ ((s, o), u). record { in_row = l; stuck = s; other = o; unnamed = λ e g h. u (e, g, h) },
          λ r. ((r.stuck, r.other), λ (e, g, h). r.unnamed e g h),
        )

    -- more entries are needed than there are exactly where the facts say so
    pub none_left_iff : (n < active n m + needed wanted mask values (held n m)) ↔ NoneLeft n wanted mask values m
    unfolding needed
    none_left_iff = (there, back)
      where
        test : ℕ → Bool
        test = unserved wanted mask values (held n m)

        there : n < active n m + sum 512 (λ p. num (test p)) → NoneLeft n wanted mask values m
        there h =
            let r = rising test 512 in
            let long : length (positions 512 test) ≡ sum 512 (λ p. num (test p)) = length_positions test 512 in
            record {
              a = active n m;
              u = length (positions 512 test);
              position = λ i. get_or (positions 512 test) i 0;
              counted = active_said n m range formed;
              unserved = λ i l. (unserved_iff (get_or (positions 512 test) i 0) (r.bound i l)).0 (r.passes i l);
              rising = r.rise;
              exceed = omega arith;
            }

        back : NoneLeft n wanted mask values m → n < active n m + sum 512 (λ p. num (test p))
        back r =
            let q : active n m ≡ r.a = active_is n m range r.a r.counted in
            let passes : (i : ℕ) → i < r.u → (r.position i < 512) × (test (r.position i) ≡ true) =
            λ i l. ((r.unserved i l).in_row, (unserved_iff (r.position i) (r.unserved i l).in_row).1 (rw q (r.unserved i l))) in
            omega (arith, r.exceed, sum_rising 512 r.u test r.position passes r.rising)
