-- The definitions of well-formed metadata, of its active entries and of what they name say what the refusals' facts say. Assumes nothing.
use mathlib.Core.Path.{◌≡◌, sym, ap, subst, ◌∙◌}
use mathlib.Core.Bool.{true, false, not, ◌&&◌}
use mathlib.Core.List.{List}
use mathlib.Core.Logic.Iff
use mathlib.Core.Logic.{◌↔◌, inl, inr, ⊎_elim}
use Prim.Native.Nat.{ℕ, ◌+◌, ◌-◌, ◌*◌, ◌≤◌, ◌<◌}
use native.Mathlib.Omega.{arith}
use native.Mathlib.Decide.{ℕ_discrete}
use borrow.Author.Tests.{le-leb, lt-leb, lt-ltb, le-ltb}
use lib.Dec.{eqb, ltb, leb}
use lib.ListN.{length}
use Rattle.bits.specs.Bits.{num, has, at}
use Rattle.bits.proofs.TestLaws.{clash, true_or_false, lt_or_le, eqb_same, leb_iff, and_iff}
use Rattle.bits.proofs.BoundLaws.{some_none, some_iff, sum_ext, sum_below}
use Rattle.bits.proofs.BitLaws.{has_zero, has_ext}
use Rattle.bits.proofs.ByteLaws.{at_past}
use Rattle.pointer_promises.specs.Pointer.{size, entry, spare, active, idle, formed}
use Rattle.pointer_promises.specs.Refusals.{InRange, Fewest, Spare, Partly, Active, WellFormed}
use Rattle.pointer_promises.proofs.MetadataLaws.{has_entry, entry_lt, has_unary, idle_lt, idle_last, idle_other, active_full, active_unary, active_part, formed_idle}

-- ---- the length and the spare bits

-- the length of the metadata is the fewest bytes that hold it
pub size_iff : (n l : ℕ) → (l ≡ size n) ↔ Fewest n l
size_iff n l = (λ h. (omega arith, omega arith), λ (a, b). omega arith)

pub spare_iff : (n : ℕ) (m : List ℕ) → length m ≡ size n → (spare n m ≡ true) ↔ Spare n m
unfolding spare
spare_iff n m l =
    Iff.trans (some_iff _ _ _ (λ p. and_iff _ (leb_iff _ p) _ (λ h. h, λ h. h))) (
      λ (p, k, (g, h)). (p, omega arith, h),
      λ (p, g, h). (p, ⊎_elim (λ k. k) (λ k. clash h (at_past m p (omega arith))) (lt_or_le p (8 * size n)), (omega arith, h)),
    )

-- ---- how many entries are active

module _ (n : ℕ) (m : List ℕ) (range : InRange n) where
  -- a count that the facts give is the definition's
  pub active_is : (a : ℕ) → Active n m a → active n m ≡ a
  active_is a (inl (h, e)) = active_full n m h ∙ sym e
  active_is a (inr s) =
      active_unary n m s.not_full ∙ sum_ext (n - 1) (λ k. num (has (entry m (n - 1)) k)) (λ k. num (ltb k a)) (λ k h. ap num (bit k (omega arith)))
      ∙ sum_below (n - 1) a ∙ omega (arith, s.fewer)
    where
      bit : (k : ℕ) → k < 10 → has (entry m (n - 1)) k ≡ ltb k a
      bit k h =
          has_entry m (n - 1) k h
          ∙ ⊎_elim (λ l. s.ones (n - 1) k (omega arith) l ∙ sym (lt-ltb k a l)) (λ l. s.zeros (n - 1) k (omega arith) l h ∙ sym (le-ltb k a l)) (lt_or_le k a)

  -- metadata that says how many is well formed
  formed_when : (a : ℕ) → Active n m a → formed n m ≡ true
  unfolding formed
  formed_when a s = rw (active_is a s) (ap not (some_none n (λ e. leb a e && not (eqb (entry m e) (idle n a e))) (right s)))
    where
      same : Partly n m a → (e : ℕ) → a ≤ e → e < n → entry m e ≡ idle n a e
      same r e l h = has_ext 10 (entry m e) (idle n a e) (entry_lt m e) (idle_lt n a e) (λ k q. has_entry m e k q ∙ bit (ℕ_discrete (e + 1) n) k q)
        where
          bit : Dec (e + 1 ≡ n) → (k : ℕ) → k < 10 → at m (1 + 10 * e + k) ≡ has (idle n a e) k
          bit (yes z) k q =
              ⊎_elim (λ g. r.ones e k z g ∙ sym (lt-ltb k a g)) (λ g. r.zeros e k z g q ∙ sym (le-ltb k a g)) (lt_or_le k a)
              ∙ sym (ap (λ x. has x k) (idle_last n a e z) ∙ has_unary a k q)
          bit (no z) k q = r.between e k l (omega arith) q ∙ sym (ap (λ x. has x k) (idle_other n a e z) ∙ has_zero k)

      right : Active n m a → (e : ℕ) → e < n → leb a e && not (eqb (entry m e) (idle n a e)) ≡ false
      right (inl (g, z)) e h = rw (lt-leb a e (omega arith))
      right (inr r) e h = ⊎_elim (λ l. rw (lt-leb a e l)) (λ l. rw (le-leb a e l, same r e l h, eqb_same (idle n a e))) (lt_or_le e a)

  -- and well-formed metadata says it
  says_active : formed n m ≡ true → Active n m (active n m)
  says_active f = ⊎_elim (λ h. inl (h, active_full n m h)) (λ h. inr (partly h)) (true_or_false (at m 0))
    where
      bit : (e k : ℕ) → active n m ≤ e → e < n → k < 10 → at m (1 + 10 * e + k) ≡ has (idle n (active n m) e) k
      bit e k l h q = sym (has_entry m e k q) ∙ ap (λ x. has x k) (formed_idle n m f e l h)

      last : (e k : ℕ) → e + 1 ≡ n → active n m < n → k < 10 → at m (1 + 10 * e + k) ≡ ltb k (active n m)
      last e k z l q = bit e k (omega arith) (omega arith) q ∙ ap (λ x. has x k) (idle_last n (active n m) e z) ∙ has_unary (active n m) k q

      partly : at m 0 ≡ false → Partly n m (active n m)
      partly h =
          let few : active n m < n = active_part n m range.0 h in
          record {
            not_full = h;
            fewer = few;
            ones = λ e k z l. last e k z few (omega arith) ∙ lt-ltb k (active n m) l;
            zeros = λ e k z l q. last e k z few q ∙ le-ltb k (active n m) l;
            between = λ e k l g q. bit e k l (omega arith) q ∙ ap (λ x. has x k) (idle_other n (active n m) e (λ z. omega arith)) ∙ has_zero k;
          }

  pub formed_iff : (formed n m ≡ true) ↔ WellFormed n m
  formed_iff = (λ f. (active n m, says_active f), λ (a, s). formed_when a s)

  pub active_said : WellFormed n m → Active n m (active n m)
  active_said (a, s) = subst (Active n m) (sym (active_is a s)) s
