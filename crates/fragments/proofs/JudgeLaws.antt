-- What numbers in range stand at, and the finish that follows from how its numbers and lengths are judged. Assumes nothing.
use Prim.Native.Nat.{ℕ, ◌+◌, ◌<◌, ◌≤◌, min}
use Rattle.std.specs.Prelude.{Result, Ok, Err, IfOk, IfErr}
use mathlib.Core.Path.{◌≡◌, refl, sym, ap, ◌∙◌}
use mathlib.Core.List.{List, []}
use mathlib.Core.Logic.{◌≢◌, inl, inr, ⊎_elim}
use native.Mathlib.Omega.{arith}
use lib.ListN.{length, take}
use Rattle.bits.specs.Bits.{Below}
use Rattle.bits.specs.First.{First}
use Rattle.bits.proofs.FirstLaws.{skip, missed, first_one}
use Rattle.grid_promises.specs.Refusals.{InRange}
use Rattle.grid_promises.specs.Promises.{Read}
use Rattle.grid_promises.specs.declared.ReadAnswer.{ReadAnswer}
use Rattle.grid_promises.proofs.IndexLaws.{no_index}
use Rattle.refusals.specs.Numbers.{number, number_of}
use Rattle.refusals.specs.declared.Refusal.{Refusal}
use Rattle.refusals.specs.declared.Refusal.TheVariants.{LongBlock}
use Rattle.fragment_promises.proofs.StandingLaws.{stands_long, stands_well}
use Rattle.std.proofs.lemmas.List.{take_min}
use Rattle.fragment_promises.specs.declared.Transfer.{Transfer}
use Rattle.fragment_promises.specs.Transfers.{size, standing, held, cells_of, counters_of}
use Rattle.fragment_promises.specs.Demands.{length_refusals, finish_refusals}
use Rattle.fragment_promises.specs.Promises.{Finish}
use Rattle.fragment_promises.proofs.FinishLaws.{accepted_range, accepted_taken, accepted_held, finish_first, finish_reads, finish_promise}

-- ---- what numbers in range stand at: nothing is refused, or the bytes taken are more than a block has

pub stands_at : (m n k taken : ℕ) → InRange m n k → (r : Result ℕ Refusal)
    → IfOk r (λ l. taken + l ≡ size m n k) → IfErr r (λ e. (e ≡ LongBlock) × (size m n k < taken)) → number_of r ≡ standing m n k taken
stands_at m n k taken range (Ok l) e _ = sym (stands_well m n k taken range (omega (arith, e)))
stands_at m n k taken range (Err x) _ (e, long) = ap number e ∙ sym (stands_long m n k taken range long)

-- ---- a finish: of the bytes taken these are held

-- those that a record holds, cut where its room ends
pub held_is : (t : Transfer) (n : ℕ) → length t.bytes ≡ 560 → n ≡ min t.taken 560 → take n t.bytes ≡ held t
held_is t n long e = ap (λ j. take j t.bytes) (e ∙ ap (min t.taken) (sym long)) ∙ take_min t.taken t.bytes

pub record Held (m n k taken : ℕ) (bs out : List ℕ) (x : ℕ) : Type 0 where
  pub below : Below 256 bs
  pub few : length bs ≤ taken
  pub first : First (length_refusals m n k taken (length bs) (length out) []) x

module _ {m n k taken : ℕ} {bs out : List ℕ} {x : ℕ} (j : Held m n k taken bs out x) where
  -- refused: it is the first of all, and no counter is named
  module _ (h : x ≢ 0) where
    of_all : First (finish_refusals m n k taken bs (length out)) x
    of_all = record {
      found = ⊎_elim inl (λ (p, g). inr (
        p,
        ⊎_elim inl (λ (q, g). inr (q, ⊎_elim inl (λ (r, g). inr (r, ⊎_elim inl (λ (s, z). absurd (h z)) g)) g)) g,
      )) j.first.found;
    }

    not_four : x ≡ 4 → ⊥
    not_four z = omega (arith, missed (skip (skip (skip (skip j.first (λ e. omega arith)) (λ e. omega arith)) (λ e. omega arith)) (λ e. omega arith)))

    pub finish_refused : Finish m n k taken bs out (record { number = x; index = 0 }) out
    finish_refused = finish_promise m n k taken bs out (record { number = x; index = 0 }) out j.below (record {
      number = first_one _ _ _ of_all (finish_first m n k taken bs (length out) j.below);
      index_is = sym (no_index k _ _ x not_four);
      untouched = λ _. refl;
      shown = λ z. absurd (h z);
    })

  -- whole: it is the read
  module _ (z : x ≡ 0) where
    whole_taken : taken ≤ size m n k
    whole_taken = accepted_taken m n k taken (length bs) (length out) [] x j.first z

    pub whole_size : length bs ≡ size m n k
    whole_size = omega (arith, j.few, whole_taken, accepted_held m n k taken (length bs) (length out) [] x j.first z)

    pub finish_whole : (a : ReadAnswer) (after : List ℕ) → Read m n k (cells_of m n k bs) (counters_of m n k bs) out a after → Finish m n k taken bs out a after
    finish_whole a after r = finish_promise m n k taken bs out a after j.below (record {
      number =
          r.exactly.number
          ∙ sym (finish_reads m n k taken bs (length out) (accepted_range m n k taken (length bs) (length out) [] x j.first z) whole_taken (omega (arith, whole_size)));
      index_is = r.exactly.index_is;
      untouched = r.exactly.untouched;
      shown = r.exactly.shown;
    })
