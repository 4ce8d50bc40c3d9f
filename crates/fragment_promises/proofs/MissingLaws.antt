-- How many bytes are missing: what is demanded holds of the count, and nothing else keeps it. Assumes nothing.
use Prim.Native.Nat.{ℕ, ◌+◌}
use mathlib.Core.Path.{◌≡◌, refl, sym, ap, subst, ◌∙◌}
use mathlib.Core.Logic.{◌≢◌, ⊎_elim}
use native.Mathlib.Omega.{arith}
use borrow.Author.Tests.{eq-eqb, ne_eqb}
use Rattle.bits.specs.First.{First}
use Rattle.bits.proofs.FirstLaws.{first_one, rising_lowest}
use Rattle.bits.proofs.TestLaws.{lt_or_le}
use Rattle.fragment_promises.specs.declared.MissingAnswer.{MissingAnswer}
use Rattle.fragment_promises.specs.Transfers.{size, standing, missing}
use Rattle.fragment_promises.specs.Demands.{missing_refusals}
use Rattle.fragment_promises.specs.Promises.{MissingExactly, Missing, OneMissing, OneMissingByDemands, MissingLowest}
use Rattle.fragment_promises.proofs.StandingLaws.{stands, well_taken}

same_missing : (a a' : MissingAnswer) → a.number ≡ a'.number → a.bytes ≡ a'.bytes → a ≡ a'
same_missing a a' e f = λ i. record { number = e i; bytes = f i }

module _ (m n k taken : ℕ) where
  -- nothing is counted where there is a refusal, and else what the block has more than was taken
  refused_none : standing m n k taken ≢ 0 → missing m n k taken ≡ 0
  unfolding missing
  refused_none h = rw (ne_eqb (standing m n k taken) 0 h) refl

  accepted_rest : standing m n k taken ≡ 0 → missing m n k taken + taken ≡ size m n k
  unfolding missing
  accepted_rest z = rw (eq-eqb (standing m n k taken) 0 z) (omega (arith, well_taken m n k taken z))

  -- an answer that is exactly so keeps the demands
  pub missing_promise : (a : MissingAnswer) → MissingExactly m n k taken a → Missing m n k taken a
  missing_promise a e = record {
    exactly = e;
    demands = record {
      first = subst (First (missing_refusals m n k taken)) (sym e.number) (stands m n k taken);
      completes = λ z. ap (λ y. y + taken) e.bytes ∙ accepted_rest (sym e.number ∙ z);
      none = λ l. e.bytes ∙ refused_none (λ z. omega (arith, e.number));
    };
  }

  -- each way by itself, as code goes it
  pub missing_refused : (x : ℕ) → x ≡ standing m n k taken → x ≢ 0 → Missing m n k taken (record { number = x; bytes = 0 })
  missing_refused x e h = missing_promise _ (record { number = e; bytes = sym (refused_none (λ z. h (e ∙ z))) })

  pub missing_counted : (x y : ℕ) → x ≡ standing m n k taken → x ≡ 0 → y + taken ≡ size m n k → Missing m n k taken (record { number = x; bytes = y })
  missing_counted x y e z f = missing_promise _ (record { number = e; bytes = omega (arith, accepted_rest (sym e ∙ z)) })

-- ---- no second answer

pub one_missing : OneMissing
one_missing m n k taken a a' e f = same_missing a a' (e.number ∙ sym f.number) (e.bytes ∙ sym f.bytes)

pub one_missing_by_demands : OneMissingByDemands
one_missing_by_demands m n k taken a a' d e =
    let same : a.number ≡ a'.number = first_one _ _ _ d.first e.first in
    same_missing a a' same
    (⊎_elim (λ l. d.none l ∙ sym (e.none (omega arith)))
    (λ l. let z : a.number ≡ 0 = omega arith in omega (arith, d.completes z, e.completes (sym same ∙ z))) (lt_or_le 0 a.number))

pub missing_lowest : MissingLowest
missing_lowest m n k taken a d = (rising_lowest _ a.number refl).0 d.first
