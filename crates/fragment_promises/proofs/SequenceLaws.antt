-- The record and the story agree through every sequence of calls, so a lump and a finish answer as the story says. Assumes nothing.
use Prim.Native.Nat.{ℕ, ◌+◌, ◌<◌, ◌≤◌}
use mathlib.Core.Path.{◌≡◌, refl, sym, ap, subst, ◌∙◌}
use mathlib.Core.List.{List, [], ◌∷◌, ◌++◌}
use mathlib.Core.Logic.{◌≢◌, inl, inr, ⊎_elim}
use native.Mathlib.Omega.{arith}
use lib.ListN.{length, take, length-append}
use Rattle.bits.specs.First.{◌when◌, First}
use Rattle.bits.proofs.TestLaws.{lt_or_le, true_or_false, iff_false}
use Rattle.bits.proofs.FirstLaws.{hit, miss}
use Rattle.grid_promises.specs.Calls.{in_range}
use Rattle.grid_promises.specs.Refusals.{InRange}
use Rattle.grid_promises.proofs.RefusalLaws.{in_range_lem}
use Rattle.grid_promises.specs.declared.ReadAnswer.{ReadAnswer}
use Rattle.fragment_promises.specs.declared.Transfer.{Transfer}
use Rattle.fragment_promises.specs.declared.MissingAnswer.{MissingAnswer}
use Rattle.fragment_promises.specs.Transfers.{size, size_of, standing_of, held, started, lumped}
use Rattle.fragment_promises.specs.Demands.{Told, Good, StartDemands, LumpDemands, finish_refusals, FinishDemands, missing_refusals, MissingDemands}
use Rattle.fragment_promises.specs.Promises.{FinishesBy, MissesBy}
use Rattle.fragment_promises.specs.Sequences.{Event, start, lump, Calls, none, starts, takes, ends, asks, run, AsDefined, Story, begun, tell, story, Fine, whole, EveryLump, EveryFinish, EveryMissing}
use Rattle.fragment_promises.proofs.PutLaws.{length_put, take_put}
use Rattle.fragment_promises.proofs.StandingLaws.{size_most, well_good, well_size, ill, by_lump}
use Rattle.fragment_promises.proofs.StepLaws.{start_promise, one_start_by_demands, lump_exactly}

-- the record holds what was sent; where that is more than the block has, more bytes count as taken
record Agrees (h : Story) (t : Transfer) : Type 0 where
  told : Told h.rows h.columns h.k t
  room : length t.bytes ≡ 560
  within : Good t → length h.sent ≤ size_of t → (t.taken ≡ length h.sent) × (held t ≡ h.sent)
  over : Good t → size_of t < length h.sent → size_of t < t.taken

-- ---- through a start and a lump

at_start : (m n k x : ℕ) (u : Transfer) → StartDemands m n k x u → Agrees (begun m n k) u
at_start m n k x u d = record {
  told = d.told;
  room = d.room;
  within = λ _ _. (d.none, ap (λ p. take p u.bytes) d.none);
  over = λ _ l. absurd (omega arith);
}

module _ (h : Story) (t : Transfer) (bs : List ℕ) (a : Agrees h t) where
  -- a record that stands well took all that was sent
  all : standing_of t ≡ 0 → (t.taken ≡ length h.sent) × (held t ≡ h.sent)
  all z =
      let r = well_good t z in
      a.within r (⊎_elim (λ l. absurd (omega (arith, a.over r l, well_size t z))) (λ l. l) (lt_or_le (size_of t) (length h.sent)))

  longer : length (h.sent ++ bs) ≡ length h.sent + length bs
  longer = length-append h.sent bs

  at_lump : Agrees (tell h (lump bs)) (lumped t bs)
  at_lump = by_lump t bs (Agrees (tell h (lump bs)))
      (λ l. record {
        told = a.told;
        room = a.room;
        within = λ r g. absurd (⊎_elim (λ n. n r) (λ o. omega (arith, longer, (a.within r (omega (arith, longer))).0)) (ill t l));
        over = λ r g. ⊎_elim (λ n. absurd (n r)) (λ o. o) (ill t l);
      })
      (λ z l.
      let (e, f) = all z in
      let fits : t.taken + length bs ≤ length t.bytes = omega (arith, a.room, size_most _ _ _ (well_good t z)) in
      record {
        told = record { rows = a.told.rows; columns = a.told.columns; levels = a.told.levels };
        room = length_put t.taken t.bytes bs fits ∙ a.room;
        within = λ r g. (omega (arith, longer, e), take_put t.taken t.bytes bs fits ∙ ap (λ x. x ++ bs) f);
        over = λ r g. absurd (omega (arith, longer, e));
      })
      (λ z l.
      let (e, f) = all z in
      record {
        told = record { rows = a.told.rows; columns = a.told.columns; levels = a.told.levels };
        room = a.room;
        within = λ r g. absurd (omega (arith, longer, e));
        over = λ r g. omega (arith, size_most _ _ _ r);
      })

at_end : (h : Story) (t v : Transfer) (es : List Event) → Calls t es v → Agrees h t → Agrees (story h es) v
at_end h t v es none a = a
at_end h t v es (starts {m} {n} {k} {x} {u = u} {es = fs} d c) a = at_end (begun m n k) u v fs c (at_start m n k x u d)
at_end h t v es (takes {bs} {x} {u = u} {es = fs} d c) a =
    at_end (tell h (lump bs)) u v fs c (subst (Agrees (tell h (lump bs))) (sym (lump_exactly t bs a.room x u d)) (at_lump h t bs a))
at_end h t v es (ends {es = fs} d c) a = at_end h t v fs c a
at_end h t v es (asks {es = fs} d c) a = at_end h t v fs c a

agree : (t v : Transfer) (m n k : ℕ) (es : List Event) → Calls t (start m n k ∷ es) v → Agrees (story (begun m n k) es) v
agree t v m n k es (starts {x = x} {u = u} d c) = at_end (begun m n k) u v es c (at_start m n k x u d)

-- ---- a record that agrees with a story answers as the story says

module _ (h : Story) (t : Transfer) (a : Agrees h t) where
  same_size : size_of t ≡ whole h
  same_size = λ i. size (a.told.rows i) (a.told.columns i) (a.told.levels i)

  fine_good : Fine h → Good t
  fine_good r = subst (λ X. X) (λ i. InRange (sym a.told.rows i) (sym a.told.columns i) (sym a.told.levels i)) r

  good_fine : Good t → Fine h
  good_fine r = subst (λ X. X) (λ i. InRange (a.told.rows i) (a.told.columns i) (a.told.levels i)) r

  -- the three ways: bad numbers, too many bytes, or all that was sent
  by_story : (P : Type 0) → ((Good t → ⊥) → P) → (Good t → whole h < length h.sent → size_of t < t.taken → P)
      → (Good t → t.taken ≡ length h.sent → held t ≡ h.sent → P) → P
  by_story P bad long held_All =
      ⊎_elim
      (λ e. let r = (in_range_lem t.rows t.columns t.k).0 e in
      ⊎_elim (λ l. long r (omega (arith, same_size)) (a.over r l)) (λ l. held_All r (a.within r l).0 (a.within r l).1) (lt_or_le (size_of t) (length h.sent)))
      (λ e. bad (iff_false _ (in_range_lem t.rows t.columns t.k) e)) (true_or_false (in_range t.rows t.columns t.k))

  same_lump : (bs : List ℕ) (x : ℕ) (u : Transfer) → LumpDemands t bs x u
      → First ((1 when (Fine h → ⊥)) ∷ (9 when (whole h < length (h.sent ++ bs))) ∷ []) x
  same_lump bs x u d =
      let more : length (h.sent ++ bs) ≡ length h.sent + length bs = length-append h.sent bs in
      by_story (First ((1 when (Fine h → ⊥)) ∷ (9 when (whole h < length (h.sent ++ bs))) ∷ []) x)
      (λ n. record { found = inl (λ r. n (fine_good r), hit d.first n) })
      (λ r l o. record { found = inr (λ n. n (good_fine r), inl (omega (arith, more), hit (miss d.first (λ n. n r)) (omega arith))) })
      (λ r e f. record {
        found = inr (λ n. n (good_fine r), ⊎_elim (λ (o, g). inl (omega (arith, same_size, more), g)) (λ (o, g). inr (λ l. o (omega (arith, same_size, more)), g)) (miss d.first (λ n. n r)).found);
      })

  module _ (out : List ℕ) (b : ReadAnswer) (after : List ℕ) (f : FinishesBy t out b after) where
    -- refused by bad numbers or by too many bytes: nothing else of what is held counts
    refused : (x : ℕ) → 0 < x → x ≢ 4 → b.number ≡ x → First (finish_refusals t.rows t.columns t.k (length h.sent) h.sent (length out)) x
        → FinishDemands t.rows t.columns t.k (length h.sent) h.sent out b after
    refused x l n p q = record {
      first = subst (First _) (sym p) q;
      names = record { first = λ z. absurd (n (sym p ∙ z)); none = f.names.none };
      untouched = f.untouched;
      inside = λ z. absurd (omega arith);
      shows = λ z. absurd (omega arith);
    }

    same_finish : FinishDemands h.rows h.columns h.k (length h.sent) h.sent out b after
    same_finish =
        subst (λ X. X) (λ i. FinishDemands (a.told.rows i) (a.told.columns i) (a.told.levels i) (length h.sent) h.sent out b after)
        (by_story (FinishDemands t.rows t.columns t.k (length h.sent) h.sent out b after)
        (λ n. refused 1 (omega arith) (λ e. omega arith) (hit f.first n) (record { found = inl (n, refl) }))
        (λ r l o. refused 9 (omega arith) (λ e. omega arith) (hit (miss f.first (λ n. n r)) o) (record { found = inr (λ n. n r, inl (omega (arith, same_size), refl)) }))
        (λ r p q. subst (λ X. X) (λ i. FinishDemands t.rows t.columns t.k (p i) (q i) out b after) f))

  module _ (b : MissingAnswer) (f : MissesBy t b) where
    uncounted : (x : ℕ) → 0 < x → b.number ≡ x → First (missing_refusals t.rows t.columns t.k (length h.sent)) x
        → MissingDemands t.rows t.columns t.k (length h.sent) b
    uncounted x l p q = record { first = subst (First _) (sym p) q; completes = λ z. absurd (omega arith); none = f.none }

    same_missing : MissingDemands h.rows h.columns h.k (length h.sent) b
    same_missing =
        subst (λ X. X) (λ i. MissingDemands (a.told.rows i) (a.told.columns i) (a.told.levels i) (length h.sent) b)
        (by_story (MissingDemands t.rows t.columns t.k (length h.sent) b)
        (λ n. uncounted 1 (omega arith) (hit f.first n) (record { found = inl (n, refl) }))
        (λ r l o. uncounted 9 (omega arith) (hit (miss f.first (λ n. n r)) o) (record { found = inr (λ n. n r, inl (omega (arith, same_size), refl)) }))
        (λ r p q. subst (λ c. MissingDemands t.rows t.columns t.k c b) p f))

-- ---- the record is the one that the definitions make

start_exactly : (m n k x : ℕ) (u : Transfer) → StartDemands m n k x u → u ≡ started m n k
start_exactly m n k x u d = (one_start_by_demands m n k x _ u _ d (start_promise m n k).demands).1

as_run : (t v : Transfer) (es : List Event) → length t.bytes ≡ 560 → Calls t es v → v ≡ run t es
as_run t v es room none = refl
as_run t v es room (starts {m} {n} {k} {x} {u = u} {es = fs} d c) = as_run u v fs d.room c ∙ ap (λ u. run u fs) (start_exactly m n k x u d)
as_run t v es room (takes {bs} {x} {u = u} {es = fs} d c) = as_run u v fs (d.room ∙ room) c ∙ ap (λ u. run u fs) (lump_exactly t bs room x u d)
as_run t v es room (ends {es = fs} d c) = as_run t v fs room c
as_run t v es room (asks {es = fs} d c) = as_run t v fs room c

pub as_defined : AsDefined
as_defined t v m n k es (starts {x = x} {u = u} d c) = as_run u v es d.room c ∙ ap (λ u. run u es) (start_exactly m n k x u d)

-- more was sent than the block has: the record stands at 9
pub too_long : (t u : Transfer) (m n k : ℕ) (es : List Event) → Calls t (start m n k ∷ es) u
    → let h = story (begun m n k) es in Fine h → whole h < length h.sent → Good u × (size_of u < u.taken)
too_long t u m n k es c r l =
    let h = story (begun m n k) es in
    let a = agree t u m n k es c in
    let good = fine_good h u a r in
    (good, a.over good (omega (arith, same_size h u a)))

-- ---- the theorem

pub every_lump : EveryLump
every_lump t u v m n k es bs x c d = same_lump (story (begun m n k) es) u (agree t u m n k es c) bs x v d

pub every_missing : EveryMissing
every_missing t u m n k es a c f = same_missing (story (begun m n k) es) u (agree t u m n k es c) a f

pub every_finish : EveryFinish
every_finish t u m n k es out a after c f = same_finish (story (begun m n k) es) u (agree t u m n k es c) out a after f
