-- What a code proof cites at each return of a plan: from the tests' values and the sets that the levels took to the whole promise. Assumes nothing.
use Prim.Native.Nat.{ℕ, ◌≤◌}
use mathlib.Core.Path.{◌≡◌, refl, sym, ap, ap₂, subst, ◌∙◌}
use mathlib.Core.Bool.{true, false}
use mathlib.Core.List.{List, [], ◌++◌}
use native.Mathlib.Omega.{arith}
use lib.ListN.{length}
use Rattle.std.specs.Prelude.{Option, Some, None, Err, ok_or}
use Rattle.bits.specs.Bits.{sum, list}
use Rattle.bits.proofs.BoundLaws.{list_ext}
use Rattle.rdis.specs.Block.{Block}
use Rattle.rdis.specs.Levels.{whole, Outcome, masked, unmaskable, plan}
use Rattle.rdis.specs.Packing.{width, in_order, packed}
use Rattle.rdis.proofs.PackingLaws.{width_holds}
use Rattle.grid_sets.specs.Sets.{times}
use Rattle.grid_sets.specs.Promises.{packable, Pack}
use Rattle.grid_sets.proofs.RoomLaws.{can_pack}
use Rattle.refusals.proofs.NumberLaws.{number_some}
use Rattle.grid_packing.proofs.ClearLaws.{cleared}
use Rattle.refusals.specs.Numbers.{number, index}
use Rattle.refusals.specs.declared.Refusal.{Refusal}
use Rattle.refusals.specs.declared.Refusal.TheVariants.{BitPastEnd, Unmaskable}
use Rattle.grid_promises.specs.Calls.{in_range, block, plan_sized, plan_past, plan_number}
use Rattle.grid_promises.specs.Refusals.{PlanLengths}
use Rattle.grid_promises.specs.Promises.{Plan}
use Rattle.grid_promises.specs.declared.Answer.{Answer}
use Rattle.grid_promises.proofs.RefusalLaws.{in_range_lem, plan_sized_lem}
use Rattle.grid_promises.proofs.PlanDemands.{plan_demands}
use Rattle.grid_checks.specs.Numbers.{judged, plan_judged}
use Rattle.grid_levels.specs.Steps.{block_of, PlanSized, subgrid, Follows, Planned, Accepts, answer_of, answered, Begins}
use Rattle.grid_levels.specs.declared.levels.FirstLevel.{FirstLevel}
use Rattle.grid_levels.proofs.DescendLaws.{planned_none}
use Rattle.grid_levels.proofs.Returns.{passes, judged_refusal, mask_inside}

-- a refusal by the right number, and without an index
refused_plan : (b : Block) (k : ℕ) (counters : List ℕ) (e : Refusal) → index e ≡ 0 → number e ≡ plan_number b k (length counters) → Plan b k counters (answered (Err e)) counters
refused_plan b k counters e i n =
    plan_demands b k counters (answered (Err e)) counters (record {
      number = n;
      index_is = i;
      untouched = λ _. (record { levels = refl; faults = refl; wrong = refl; right = refl }, refl);
      counters_are = λ z. absurd (omega (arith, number_some e, z));
      levels_are = λ z. absurd (omega (arith, number_some e, z));
      faults_are = λ z. absurd (omega (arith, number_some e, z));
      kinds_are = λ z. absurd (omega (arith, number_some e, z));
    })

-- ---- numbers and lengths

module _ (m n k : ℕ) (d mask values counters : List ℕ) where
  abbrev b : Block
  b = block m n d mask values

  abbrev number_judged : ℕ
  number_judged = plan_judged m n k (length d) (length mask) (length values) (length counters)

  pub plan_judged_lem : (e : Refusal) → number e ≡ number_judged → Plan b k counters (answered (Err e)) counters
  unfolding judged plan_number
  plan_judged_lem e h = let (n, _, i) = judged_refusal (in_range m n k) (plan_sized b k (length counters)) _ e h in refused_plan b k counters e i n

  module _ (z : 0 ≡ number_judged) where
    right : (in_range m n k ≡ true) × (plan_sized b k (length counters) ≡ true)
    unfolding judged
    right = passes (in_range m n k) (plan_sized b k (length counters)) (sym z)

    plan_lengths : PlanLengths b k (length counters)
    plan_lengths = (plan_sized_lem b k (length counters)).0 right.1

    -- as many words of each, at most 64
    pub plan_rows : (length d ≤ 64) × (length mask ≡ length d) × (length values ≡ length d)
    plan_rows =
        let l = plan_lengths in
        let w = l.data_words in
        (rw w ((in_range_lem m n k).0 right.0).rows.1, l.mask_words ∙ sym w, l.value_words ∙ sym w)

    pub plan_goes_on : PlanSized n k d counters
    plan_goes_on = let w = plan_lengths.data_words in record { ranges = rw w right.0; sizes = rw w plan_lengths.counter_bytes }

    pub plan_comes_back : (a : Answer) (counters' : List ℕ) → Plan (block_of n d mask values) k counters a counters' → Plan b k counters a counters'
    plan_comes_back a counters' p = subst (λ y. Plan (block y n d mask values) k counters a counters') plan_lengths.data_words p

-- ---- how the levels ended

-- no place is before the first
none_before : (sets : List ℕ) (i : ℕ) → times sets 0 i ≡ 0
unfolding times sum
none_before sets i = refl

module _ (k : ℕ) (rows₀ columns₀ rows columns : List ℕ) where
  lost : (o : Outcome) → Follows k 0 rows₀ columns₀ rows columns None o → o ≡ unmaskable
  lost (masked l r c) f = absurd f
  lost unmaskable f = refl

  -- u levels mask the faults, and their sets are counted
  record Found (u : ℕ) (o : Outcome) : Type 0 where
    r : ℕ → ℕ
    c : ℕ → ℕ
    masks : o ≡ masked u r c
    few : u ≤ k
    rows_are : (i : ℕ) → times rows u i ≡ r i
    columns_are : (j : ℕ) → times columns u j ≡ c j

  found : (u : ℕ) (o : Outcome) → Follows k 0 rows₀ columns₀ rows columns (Some u) o → Found u o
  found u (masked l r c) f =
      let e : l ≡ u = omega (arith, f.used) in
      record {
        r = r;
        c = c;
        masks = ap (λ x. masked x r c) e;
        few = omega (arith, f.few, e);
        rows_are = λ i. omega (arith, f.rows i, none_before rows₀ i);
        columns_are = λ j. omega (arith, f.columns j, none_before columns₀ j);
      }
  found u unmaskable f = absurd f

module _ (n k : ℕ) (d mask values counters : List ℕ) (masks : length mask ≡ length d) (stuck_at : length values ≡ length d) (s : PlanSized n k d counters) where
  abbrev own : Block
  own = block_of n d mask values

  lengths_right : plan_sized own k (length counters) ≡ true
  lengths_right = (plan_sized_lem own k (length counters)).1 (record { data_words = refl; mask_words = masks; value_words = stuck_at; counter_bytes = s.sizes })

  pub plan_past_lem : plan_past own ≡ true → Plan own k counters (answered (Err BitPastEnd)) counters
  unfolding plan_number
  plan_past_lem h = refused_plan own k counters BitPastEnd refl (rw (s.ranges, lengths_right, h))

  module _ (inside : plan_past own ≡ false) (f : FirstLevel) (b : Begins d mask values f) where
    module _ (rows₀ columns₀ rows columns : List ℕ) where
      follows : (u : Option ℕ) → Planned d mask values (subgrid f.takes) true k 0 rows₀ columns₀ rows columns u → Follows k 0 rows₀ columns₀ rows columns u (plan own k)
      unfolding plan
      follows u p = p.follows n (whole own) (b.takes· n (mask_inside n d mask values inside))

      -- the refusal e stands for none
      pub plan_unmaskable : (u : Option ℕ) (e : Refusal) → Planned d mask values (subgrid f.takes) true k 0 rows₀ columns₀ rows columns u → Err e ≡ ok_or u Unmaskable → Plan own k counters (answered (Err e)) counters
      unfolding plan_number
      plan_unmaskable None e p h =
          let r : e ≡ Unmaskable = cc in
          subst (λ x. Plan own k counters (answered (Err x)) counters) (sym r)
          (refused_plan own k counters Unmaskable refl (rw (s.ranges, lengths_right, inside, lost k rows₀ columns₀ rows columns (plan own k) (follows None p))))
      plan_unmaskable (Some u) e p h = cc

      module _ (u : ℕ) (p : Planned d mask values (subgrid f.takes) true k 0 rows₀ columns₀ rows columns (Some u)) where
        ended : Found k rows₀ columns₀ rows columns u (plan own k)
        ended = found k rows₀ columns₀ rows columns u (plan own k) (follows (Some u) p)

        -- there is room for the counters of the levels that were used
        has_room : packable k (length d) n u (length counters) ≡ true
        has_room =
            let r = (in_range_lem (length d) n k).0 s.ranges in
            can_pack k (length d) n u (length counters) (omega (arith, ended.few, width_holds k r.levels.1)) (record { rows = r.rows.1; columns = r.columns.1; size = s.sizes })

        -- the answer has the counts of the first pass
        pub plan_done : (a : Answer) (counters' : List ℕ) → a ≡ answer_of u f.faults f.wrong → Pack k (length d) n u rows columns counters counters' → Plan own k counters a counters'
        unfolding plan_number
        plan_done a counters' q p =
            let g = subst (Accepts d mask values u) (sym q) (b.accepts u) in
            let o = ended in
            let counted : in_order (length d) n (times rows u) (times columns u) ≡ in_order (length d) n o.r o.c =
            ap₂ ◌++◌ (list_ext (length d) (times rows u) o.r (λ i _. o.rows_are i)) (list_ext n (times columns u) o.c (λ j _. o.columns_are j)) in
            plan_demands own k counters a counters' (record {
              number = g.number ∙ rw (s.ranges, lengths_right, inside, o.masks);
              index_is = g.index;
              untouched = λ l. absurd (omega (arith, g.number));
              counters_are = λ _. rw o.masks (p.bytes has_room ∙ ap (packed (width k)) counted);
              levels_are = λ _. rw o.masks g.levels;
              faults_are = λ _. g.faults_are;
              kinds_are = λ _. g.kinds_are n (mask_inside n d mask values inside);
            })

    -- no level, and the counters of none
    pub plan_clear : (a : Answer) (counters' : List ℕ) → f.takes.rows ≡ 0 → a ≡ answer_of 0 f.faults f.wrong → counters' ≡ list (length counters) (λ _. 0) → Plan own k counters a counters'
    plan_clear a counters' z q e =
        let none : Planned d mask values (subgrid f.takes) true k 0 [] [] [] [] (Some 0) = planned_none d mask values true (subgrid f.takes) k 0 [] [] z in
        plan_done [] [] [] [] 0 none a counters' q (cleared k (length d) n [] [] counters counters' (has_room [] [] [] [] 0 none) e)
