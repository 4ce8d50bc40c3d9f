-- A start and a lump: what is demanded of them holds of what they make, and nothing else keeps it. Assumes nothing.
use Prim.Native.Nat.{ℕ, ◌+◌, ◌<◌, ◌≤◌}
use mathlib.Core.Path.{◌≡◌, refl, sym, subst, ◌∙◌}
use mathlib.Core.List.{List, [], ◌∷◌}
use mathlib.Core.Logic.{◌⊎◌, inl, inr, ⊎_elim}
use native.Mathlib.Omega.{arith}
use lib.ListN.{length, get_or, length-replicate}
use lib.Seq.{ext_get_or}
use Rattle.bits.specs.First.{◌when◌, First}
use Rattle.bits.proofs.TestLaws.{lt_or_le, true_or_false, iff_false}
use Rattle.bits.proofs.FirstLaws.{hit, miss, missed, first_one, rising_lowest}
use Rattle.bits.proofs.ByteLaws.{get_or_zeros}
use Rattle.grid_promises.specs.Calls.{in_range}
use Rattle.grid_promises.proofs.RefusalLaws.{in_range_lem}
use Rattle.fragment_promises.specs.declared.Transfer.{Transfer}
use Rattle.fragment_promises.specs.Transfers.{size_of, standing, standing_of, started, extended, noted, lumped}
use Rattle.fragment_promises.specs.Demands.{Told, Good, LumpDemands}
use Rattle.fragment_promises.specs.Promises.{Leaves, Start, Lump, OneStep, OneStart, OneLump, OneStartByDemands, OneLumpByDemands, StartLowest, LumpLowest}
use Rattle.fragment_promises.proofs.PutLaws.{by_place, length_put, put_inside, put_before, put_after}
use Rattle.fragment_promises.proofs.StandingLaws.{size_most, stands, stands_long, stands_well, well_good, well_size, by_lump}

-- ---- a start

pub start_promise : (m n k : ℕ) → Start m n k (standing_of (started m n k)) (started m n k)
start_promise m n k = record {
  exactly = record { number = refl; left = refl };
  demands = record {
    first = record { found = ⊎_elim inl (λ (h, f). inr (h, ⊎_elim (λ (l, e). absurd (omega arith)) (λ (g, e). e) f)) (stands m n k 0).found };
    told = record { rows = refl; columns = refl; levels = refl };
    none = refl;
    room = length-replicate {A = ℕ} 560 0;
    zeros = get_or_zeros 560;
  };
}

one_left : (v : Transfer) → OneStep (Leaves v)
one_left v x x' u u' a b = (a.number ∙ sym b.number, a.left ∙ sym b.left)

pub one_start : OneStart
one_start m n k x x' u u' a b = one_left _ _ _ _ _ a.exactly b.exactly

-- ---- records are equal where their numbers and bytes are

same_transfer : (t u : Transfer) → Told u.rows u.columns u.k t → t.taken ≡ u.taken → t.bytes ≡ u.bytes → t ≡ u
same_transfer t u h e f = λ i. record { rows = h.rows i; columns = h.columns i; k = h.levels i; taken = e i; bytes = f i }

same_told : (m n k : ℕ) (t u : Transfer) → Told m n k t → Told m n k u → Told u.rows u.columns u.k t
same_told m n k t u h g = record { rows = h.rows ∙ sym g.rows; columns = h.columns ∙ sym g.columns; levels = h.levels ∙ sym g.levels }

pub one_start_by_demands : OneStartByDemands
one_start_by_demands m n k x x' u u' d e = (
  first_one _ _ _ d.first e.first,
  same_transfer u u' (same_told m n k u u' d.told e.told) (d.none ∙ sym e.none)
      (ext_get_or 0 _ _ (d.room ∙ sym e.room) (λ i _. d.zeros i ∙ sym (e.zeros i))),
)

-- ---- a lump

-- what the record stood at decides, or whether the lump fits
pub by_record : {A : Type 0} (t : Transfer) (bs : List ℕ) → ((Good t → ⊥) ⊎ (size_of t < t.taken) → A) → (Good t → t.taken + length bs ≤ size_of t → A)
    → (Good t → t.taken ≤ size_of t → size_of t < t.taken + length bs → A) → A
by_record t bs stays fits refused =
    ⊎_elim
    (λ e. let r = (in_range_lem t.rows t.columns t.k).0 e in
    ⊎_elim (λ l. stays (inr l)) (λ l. ⊎_elim (refused r l) (fits r) (lt_or_le (size_of t) (t.taken + length bs))) (lt_or_le (size_of t) t.taken))
    (λ e. stays (inl (iff_false _ (in_range_lem t.rows t.columns t.k) e))) (true_or_false (in_range t.rows t.columns t.k))

module _ (t : Transfer) (bs : List ℕ) where
  abbrev lump_first : ℕ → Type 0
  lump_first = First ((1 when (Good t → ⊥)) ∷ (9 when (size_of t < t.taken + length bs)) ∷ [])

  -- the number by what the record stood at
  taken_number : (x : ℕ) → lump_first x → Good t → t.taken + length bs ≤ size_of t → x ≡ 0
  taken_number x f r l = missed (miss (miss f (λ h. h r)) (λ h. omega arith))

  long_number : (x : ℕ) → lump_first x → Good t → size_of t < t.taken + length bs → x ≡ 9
  long_number x f r l = hit (miss f (λ h. h r)) l

  pub refused_number : (x : ℕ) → lump_first x → (Good t → ⊥) ⊎ (size_of t < t.taken + length bs) → 0 < x
  refused_number x f h =
      ⊎_elim (λ n. omega (arith, hit f n))
      (λ l. ⊎_elim (λ (n, e). omega arith) (λ (n, g). ⊎_elim (λ (p, e). omega arith) (λ (q, e). absurd (q l)) g) f.found) h

  -- as it was before
  ill_number : (x : ℕ) → lump_first x → (Good t → ⊥) ⊎ (size_of t < t.taken) → 0 < x
  ill_number x f h = refused_number x f (⊎_elim inl (λ l. inr (omega arith)) h)

  -- ---- nothing else keeps the demands
  module _ (x x' : ℕ) (u u' : Transfer) (d : LumpDemands t bs x u) (e : LumpDemands t bs x' u') where
    same_number : x ≡ x'
    same_number = first_one _ _ _ d.first e.first

    -- byte by byte
    same_bytes : x ≡ 0 → u.bytes ≡ u'.bytes
    same_bytes z =
        let z' : x' ≡ 0 = sym same_number ∙ z in
        ext_get_or 0 _ _ (d.room ∙ sym e.room) (λ i _.
        by_place (λ i. get_or u.bytes i 0 ≡ get_or u'.bytes i 0) t.taken (length bs) i
        (λ o. d.others z i o ∙ sym (e.others z' i o)) (λ j l. d.placed z j l ∙ sym (e.placed z' j l)))

    kept_bytes : 0 < x → u.bytes ≡ u'.bytes
    kept_bytes l = d.kept l ∙ sym (e.kept (omega (arith, same_number)))

    same_record : u.taken ≡ u'.taken → u.bytes ≡ u'.bytes → (x ≡ x') × (u ≡ u')
    same_record p q = (same_number, same_transfer u u' (same_told t.rows t.columns t.k u u' d.told e.told) p q)

    one_lump_is : (x ≡ x') × (u ≡ u')
    one_lump_is =
        by_record t bs
        (λ h. same_record (d.stays h ∙ sym (e.stays h)) (kept_bytes (ill_number _ d.first h)))
        (λ r l. let z = taken_number _ d.first r l in same_record (d.counted z ∙ sym (e.counted (sym same_number ∙ z))) (same_bytes z))
        (λ r l g. let z = long_number _ d.first r g in same_record (d.noted r l z ∙ sym (e.noted r l (sym same_number ∙ z))) (kept_bytes (omega arith)))

  -- ---- what it makes keeps them
  module _ (room : length t.bytes ≡ 560) where
    past : standing_of t ≡ 0 → standing t.rows t.columns t.k 561 ≡ 9
    past z = stands_long _ _ _ 561 (well_good t z) (omega (arith, size_most _ _ _ (well_good t z)))

    fitting : standing_of t ≡ 0 → t.taken + length bs ≤ size_of t → t.taken + length bs ≤ length t.bytes
    fitting z l = omega (arith, room, size_most _ _ _ (well_good t z))

    more : standing_of t ≡ 0 → t.taken + length bs ≤ size_of t → standing t.rows t.columns t.k (t.taken + length bs) ≡ 0
    more z l = stands_well _ _ _ (t.taken + length bs) (well_good t z) l

    pub lump_demands : LumpDemands t bs (standing_of (lumped t bs)) (lumped t bs)
    lump_demands = by_lump t bs (λ u. LumpDemands t bs (standing_of u) u)
        (λ l. record {
          first = record { found = ⊎_elim inl (λ (h, f). inr (h, ⊎_elim (λ (g, e). inl (omega arith, e)) (λ (g, e). absurd (omega arith)) f)) (stands _ _ _ t.taken).found };
          told = record { rows = refl; columns = refl; levels = refl };
          room = refl;
          counted = λ z. absurd (omega arith);
          placed = λ z. absurd (omega arith);
          others = λ z i o. refl;
          kept = λ _. refl;
          noted = λ r g z. absurd (omega (arith, stands_well _ _ _ t.taken r g));
          stays = λ _. refl;
        })
        (λ z l. record {
          first = record { found = inr (λ h. h (well_good t z), inr (λ g. omega arith, more z l)) };
          told = record { rows = refl; columns = refl; levels = refl };
          room = length_put t.taken t.bytes bs (fitting z l);
          counted = λ _. refl;
          placed = λ _. put_inside t.taken t.bytes bs (fitting z l);
          others = λ _ i. ⊎_elim (put_before t.taken t.bytes bs (fitting z l) i) (put_after t.taken t.bytes bs (fitting z l) i);
          kept = λ g. absurd (omega (arith, more z l));
          noted = λ r g y. absurd (omega (arith, more z l));
          stays = ⊎_elim (λ n. absurd (n (well_good t z))) (λ g. absurd (omega (arith, well_size t z)));
        })
        (λ z l. record {
          first = record { found = inr (λ h. h (well_good t z), inl (l, past z)) };
          told = record { rows = refl; columns = refl; levels = refl };
          room = refl;
          counted = λ y. absurd (omega (arith, past z));
          placed = λ y. absurd (omega (arith, past z));
          others = λ y. absurd (omega (arith, past z));
          kept = λ _. refl;
          noted = λ _ _ _. refl;
          stays = ⊎_elim (λ n. absurd (n (well_good t z))) (λ g. absurd (omega (arith, well_size t z)));
        })

    -- each way by itself, as code goes it
    lump_to : (u : Transfer) → lumped t bs ≡ u → Lump t bs (standing_of u) u
    lump_to u e = subst (λ u. Lump t bs (standing_of u) u) e (record { exactly = record { number = refl; left = refl }; demands = lump_demands })

    pub lump_stays : 0 < standing_of t → Lump t bs (standing_of t) t
    lump_stays l = lump_to t (by_lump t bs (λ u. u ≡ t) (λ _. refl) (λ z _. absurd (omega arith)) (λ z _. absurd (omega arith)))

    pub lump_taken : standing_of t ≡ 0 → t.taken + length bs ≤ size_of t → Lump t bs 0 (extended t bs)
    lump_taken z l = subst (λ x. Lump t bs x (extended t bs)) (more z l)
        (lump_to (extended t bs) (by_lump t bs (λ u. u ≡ extended t bs) (λ h. absurd (omega arith)) (λ _ _. refl) (λ _ h. absurd (omega arith))))

    pub lump_refused : standing_of t ≡ 0 → size_of t < t.taken + length bs → Lump t bs 9 (noted t)
    lump_refused z l = subst (λ x. Lump t bs x (noted t)) (past z)
        (lump_to (noted t) (by_lump t bs (λ u. u ≡ noted t) (λ h. absurd (omega arith)) (λ _ h. absurd (omega arith)) (λ _ _. refl)))

    -- demands alone make it what it is
    pub lump_exactly : (x : ℕ) (u : Transfer) → LumpDemands t bs x u → u ≡ lumped t bs
    lump_exactly x u d = (one_lump_is x _ u _ d lump_demands).1

-- where a refusal was noted before, the record stays as it is
pub lump_unchanged : (t u : Transfer) (bs : List ℕ) (x : ℕ) → LumpDemands t bs x u → (Good t → ⊥) ⊎ (size_of t < t.taken) → u ≡ t
lump_unchanged t u bs x d h = same_transfer u t d.told (d.stays h) (d.kept (ill_number t bs x d.first h))

-- and so it does where there are no bytes
pub lump_empty : (t u : Transfer) (x : ℕ) → LumpDemands t [] x u → u ≡ t
lump_empty t u x d =
    by_record t [] (lump_unchanged t u [] x d)
    (λ r l. let z = taken_number t [] x d.first r l in
    same_transfer u t d.told (omega (arith, d.counted z))
    (ext_get_or 0 _ _ d.room (λ i _. d.others z i (⊎_elim inl (λ g. inr (omega arith)) (lt_or_le i t.taken)))))
    (λ r l g. absurd (omega arith))

pub one_lump : OneLump
one_lump t bs x x' u u' a b = one_left _ _ _ _ _ a.exactly b.exactly

pub one_lump_by_demands : OneLumpByDemands
one_lump_by_demands = one_lump_is

-- ---- the lowest number that applies

pub start_lowest : StartLowest
start_lowest m n k x u d = (rising_lowest _ x refl).0 d.first

pub lump_lowest : LumpLowest
lump_lowest t bs x u d = (rising_lowest _ x refl).0 d.first
