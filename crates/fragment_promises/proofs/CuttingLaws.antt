-- What the theorem over sequences comes to: whole, short and long blocks, what does not count, and refusals that stay. Assumes nothing.
use Prim.Native.Nat.{ℕ, ◌+◌, ◌^◌, ◌<◌, ◌≤◌}
use mathlib.Core.Path.{◌≡◌, refl, sym, ap, subst, ◌∙◌}
use mathlib.Core.List.{List, [], ◌∷◌, ◌++◌, append_assoc, append-nil}
use mathlib.Core.Logic.{◌⊎◌, ◌≢◌, inl, inr, ⊎_elim}
use native.Mathlib.Nat.{lt_of_lt_of_le, pow-le-pow_right}
use native.Mathlib.Omega.{arith}
use lib.ListN.{length}
use Rattle.bits.specs.Bits.{Below}
use Rattle.bits.proofs.FirstLaws.{hit, miss, missed}
use Rattle.bits.proofs.TestLaws.{iff_stable, lt_or_le}
use Rattle.grid_promises.specs.Promises.{Read}
use Rattle.grid_promises.specs.Refusals.{InRange}
use Rattle.grid_promises.specs.declared.ReadAnswer.{ReadAnswer}
use Rattle.grid_promises.proofs.OneAnswer.{one_read}
use Rattle.grid_promises.proofs.ByDemands.{store_exactly}
use Rattle.grid_promises.proofs.RefusalLaws.{in_range_lem, store_accepted}
use Rattle.grid_promises.proofs.StoreDemands.{store_range, store_lengths, store_demands}
use Rattle.fragment_promises.specs.declared.MissingAnswer.{MissingAnswer}
use Rattle.fragment_promises.specs.Transfers.{counter_bytes, size, size_of, word_bytes}
use Rattle.fragment_promises.specs.Demands.{FinishDemands, MissingDemands}
use Rattle.fragment_promises.specs.Sequences.{lump, none, starts, takes, ends, asks, Story, begun, tell, story}
use Rattle.fragment_promises.specs.Sequences.{Whole, Sent, StoreThenSend, RefusedWith, Short, Long, Bad, lumps, joined, Joined, NoneMissing, SomeMissing, MissingFits, TwoCuttings, AnyCutting, EmptyLump, FinishBetween, StartsAfresh, EveryStart, Nine, EverAfter, NotTaken, WrongOutput, Refused, Stays}
use Rattle.fragment_promises.proofs.BlockLaws.{counters_back, cells_back, block_length, block_below}
use Rattle.fragment_promises.proofs.FinishLaws.{demands_read, one_finish_by_demands}
use Rattle.fragment_promises.proofs.StepLaws.{refused_number, lump_unchanged, lump_empty}
use Rattle.fragment_promises.proofs.SequenceLaws.{too_long, every_finish, every_missing}

-- ---- a whole block

pub whole_block : Whole
whole_block t u m n k es out a after c f r b e =
    let h = story (begun m n k) es in
    demands_read h.rows h.columns h.k (length h.sent) h.sent out a after b r (omega arith) (omega arith) (every_finish t u m n k es out a after c f)

-- counters and cells that were sent as bytes are read as if they were lent
module _ (m n k : ℕ) (cells counters out : List ℕ) (a : ReadAnswer) (after : List ℕ) (r : InRange m n k) (rows : length cells ≡ m)
    (bytes : length counters ≡ counter_bytes m n k) (words : Below (2 ^ 64) cells) (few : Below 256 counters) where
  reads_sent : (sent : List ℕ) → sent ≡ counters ++ word_bytes cells → FinishDemands m n k (length sent) sent out a after → Read m n k cells counters out a after
  reads_sent sent e d =
      let block = counters ++ word_bytes cells in
      let long : length block ≡ size m n k = block_length m n k cells counters rows bytes in
      subst (λ X. X) (λ i. Read m n k (cells_back m n k cells counters rows bytes words i) (counters_back m n k cells counters rows bytes i) out a after)
      (demands_read m n k (length block) block out a after (block_below cells counters few) r (omega arith) (omega arith)
      (subst (λ x. FinishDemands m n k (length x) x out a after) e d))

pub sent_block : Sent
sent_block t u m n k es cells counters out a after c f r rows bytes words few e =
    let h = story (begun m n k) es in
    reads_sent h.rows h.columns h.k cells counters out a after r rows bytes words few h.sent e (every_finish t u m n k es out a after c f)

pub store_then_send : StoreThenSend
store_then_send t u b k es counters old cells out s a after d z few o c f e =
    let none = store_accepted b k counters (length old) s.number d.first z in
    let r : InRange b.rows b.columns k = store_range b k counters old none in
    let (rows, inside) = d.inside z in
    let words : Below (2 ^ 64) cells = λ i. lt_of_lt_of_le (inside i) (pow-le-pow_right (omega arith) r.columns.1) in
    let sent = counters ++ word_bytes cells in
    let ends : FinishDemands b.rows b.columns k (length sent) sent out a after =
    subst (λ X. X) (λ i. FinishDemands (e i).rows (e i).columns (e i).k (length (e i).sent) (e i).sent out a after)
    (every_finish t u b.rows b.columns k es out a after c f) in
    let read = reads_sent b.rows b.columns k cells counters out a after r rows (store_lengths b k counters old none).planned.counter_bytes words few sent refl ends in
    let back = (store_demands b k counters old s cells (store_exactly b k counters old s cells d)).reads_back z out o in
    let (same, filled) = one_read b.rows b.columns k cells counters out a _ after _ read.exactly back.exactly in
    (ap (λ x. x.number) same, filled)

-- and by the number it is accepted, or refused for what the bytes hold
judged_whole : (m n k : ℕ) (bs out : List ℕ) (a : ReadAnswer) (after : List ℕ) → FinishDemands m n k (length bs) bs out a after → InRange m n k
    → length bs ≡ size m n k → length out ≡ m → (a.number ≡ 0) ⊎ (a.number ≡ 3) ⊎ (a.number ≡ 4)
judged_whole m n k bs out a after d r all o =
    let f = miss (miss (miss (miss d.first (λ h. h r)) (λ h. omega arith)) (λ h. h o)) (λ h. omega arith) in
    ⊎_elim (λ (h, e). inr (inl e)) (λ (h, g). ⊎_elim (λ (h, e). inr (inr e)) (λ (h, z). inl z) g) f.found

-- ---- refused

module _ (m n k taken : ℕ) (bs out : List ℕ) (a : ReadAnswer) (after : List ℕ) (d : FinishDemands m n k taken bs out a after) where
  refused_with : (x : ℕ) → 0 < x → x ≢ 4 → a.number ≡ x → RefusedWith x out a after
  refused_with x l n e = record { number = e; index = d.names.none (λ z. n (sym e ∙ z)); untouched = d.untouched (omega arith) }

  refused_bad : (InRange m n k → ⊥) → RefusedWith 1 out a after
  refused_bad h = refused_with 1 (omega arith) (λ e. omega arith) (hit d.first h)

  refused_long : InRange m n k → size m n k < taken → RefusedWith 9 out a after
  refused_long r l = refused_with 9 (omega arith) (λ e. omega arith) (hit (miss d.first (λ h. h r)) l)

  refused_short : InRange m n k → taken ≤ size m n k → length out ≡ m → length bs < size m n k → RefusedWith 8 out a after
  refused_short r g o l =
      refused_with 8 (omega arith) (λ e. omega arith) (hit (miss (miss (miss d.first (λ h. h r)) (λ h. omega arith)) (λ h. h o)) l)

  refused_output : InRange m n k → taken ≤ size m n k → length out ≢ m → RefusedWith 2 out a after
  refused_output r g o = refused_with 2 (omega arith) (λ e. omega arith) (hit (miss (miss d.first (λ h. h r)) (λ h. omega arith)) o)

pub wrong_output : WrongOutput
wrong_output t u m n k es out a after c f r l o =
    let h = story (begun m n k) es in refused_output _ _ _ _ h.sent out a after (every_finish t u m n k es out a after c f) r l o

pub short_block : Short
short_block t u m n k es out a after c f r o l =
    let h = story (begun m n k) es in refused_short _ _ _ _ h.sent out a after (every_finish t u m n k es out a after c f) r (omega arith) o l

pub long_block : Long
long_block t u m n k es out a after c f r l =
    let h = story (begun m n k) es in refused_long _ _ _ _ h.sent out a after (every_finish t u m n k es out a after c f) r l

pub bad_block : Bad
bad_block t u m n k es out a after c f r =
    let h = story (begun m n k) es in refused_bad _ _ _ _ h.sent out a after (every_finish t u m n k es out a after c f) r

-- ---- what is missing tells how a finish ends

-- accepted: the numbers are good
fine : (m n k taken : ℕ) (a : MissingAnswer) → MissingDemands m n k taken a → a.number ≡ 0 → InRange m n k
fine m n k taken a d z = iff_stable _ (in_range_lem m n k) (λ h. omega (arith, hit d.first h))

pub none_missing : NoneMissing
none_missing t u m n k es a c d z out b after f o y below =
    let h = story (begun m n k) es in
    let e = every_missing t u m n k es a c d in
    let r = fine h.rows h.columns h.k (length h.sent) a e z in
    let all : length h.sent ≡ size h.rows h.columns h.k = omega (arith, e.completes z, y) in
    let read = whole_block t u m n k es out b after c f r below all in
    (read, judged_whole h.rows h.columns h.k h.sent out b after (every_finish t u m n k es out b after c f) r all o)

pub some_missing : SomeMissing
some_missing t u m n k es a c d z out b after f o l =
    let h = story (begun m n k) es in
    let e = every_missing t u m n k es a c d in
    short_block t u m n k es out b after c f (fine h.rows h.columns h.k (length h.sent) a e z) o (omega (arith, e.completes z))

pub missing_fits : MissingFits
missing_fits t u bs x a f z d =
    let fits = miss d.first (λ h. h (fine t.rows t.columns t.k t.taken a f z)) in (
      λ e. ⊎_elim (λ l. absurd (omega (arith, hit fits l))) (λ l. omega (arith, f.completes z)) (lt_or_le (size_of t) (t.taken + length bs)),
      λ l. missed (miss fits (λ h. omega (arith, f.completes z))),
    )

-- ---- what does not count

pub any_cutting : AnyCutting
any_cutting t u t' u' m n k m' n' k' es es' out a a' x x' e c c' f f' =
    let h = story (begun m' n' k') es' in
    one_finish_by_demands h.rows h.columns h.k (length h.sent) h.sent out a a' x x'
    (subst (λ X. X) (λ i. FinishDemands (e i).rows (e i).columns (e i).k (length (e i).sent) (e i).sent out a x) (every_finish t u m n k es out a x c f))
    (every_finish t' u' m' n' k' es' out a' x' c' f')

-- lumps alone tell their bytes
tells : (h : Story) (bss : List (List ℕ)) → story h (lumps bss) ≡ record { rows = h.rows; columns = h.columns; k = h.k; sent = h.sent ++ joined bss }
tells h [] = λ i. record { rows = h.rows; columns = h.columns; k = h.k; sent = sym (append-nil h.sent) i }
tells h (bs ∷ bss) =
    tells (tell h (lump bs)) bss ∙ (λ i. record { rows = h.rows; columns = h.columns; k = h.k; sent = append_assoc h.sent bs (joined bss) i })

pub two_cuttings : TwoCuttings
two_cuttings t u t' u' m n k bss css out a a' x x' e =
    any_cutting t u t' u' m n k m n k (lumps bss) (lumps css) out a a' x x'
    (tells (begun m n k) bss ∙ (λ i. record { rows = m; columns = n; k = k; sent = e i }) ∙ sym (tells (begun m n k) css))

pub joined_lumps : Joined
joined_lumps t u m n k bss out a after r o c f =
    let e = tells (begun m n k) bss in
    let d : FinishDemands m n k (length (joined bss)) (joined bss) out a after =
    subst (λ X. X) (λ i. FinishDemands (e i).rows (e i).columns (e i).k (length (e i).sent) (e i).sent out a after) (every_finish t u m n k (lumps bss) out a after c f) in
    record {
      as_long = λ b l. demands_read m n k (length (joined bss)) (joined bss) out a after b r (omega arith) (omega arith) d;
      shorter = λ l. refused_short m n k (length (joined bss)) (joined bss) out a after d r (omega arith) o l;
      longer = λ l. refused_long m n k (length (joined bss)) (joined bss) out a after d r l;
    }

pub empty_lump : EmptyLump
empty_lump = lump_empty

pub finish_between : FinishBetween
finish_between t u [] es' out (ends d c) = c
finish_between t u (e ∷ es) es' out (starts d c) = starts d (finish_between _ u es es' out c)
finish_between t u (e ∷ es) es' out (takes d c) = takes d (finish_between _ u es es' out c)
finish_between t u (e ∷ es) es' out (ends d c) = ends d (finish_between _ u es es' out c)
finish_between t u (e ∷ es) es' out (asks d c) = asks d (finish_between _ u es es' out c)

pub starts_afresh : StartsAfresh
starts_afresh h m n k [] es' = refl
starts_afresh h m n k (e ∷ es) es' = starts_afresh (tell h e) m n k es es'

-- ---- refusals that stay

pub every_start : EveryStart
every_start m n k x u d = record { bad = hit d.first; good = λ r. missed (miss d.first (λ h. h r)) }

pub not_taken : NotTaken
not_taken t u bs x d h = d.kept (refused_number t bs x d.first h)

pub stays : Stays
stays t v es r q none = refl
stays t v es r q (starts d c) = absurd q
stays t v es r q (takes {bs} {x} {u = u} {es = fs} d c) =
    let e = lump_unchanged t u bs x d r in stays u v fs (subst Refused (sym e) r) q c ∙ e
stays t v es r q (ends {es = fs} d c) = stays t v fs r q c
stays t v es r q (asks {es = fs} d c) = stays t v fs r q c

pub ever_after : EverAfter
ever_after t u v m n k es more c c' q r l =
    let (good, over) = too_long t u m n k es c r l in
    let same : v ≡ u = stays u v more (inr over) q c' in
    subst Nine (sym same) (record {
      lumps = λ bs x w d. hit (miss d.first (λ h. h good)) (omega arith);
      finishes = λ out a after d. refused_long _ _ _ _ _ out a after d good over;
      asks = λ a d. let e = hit (miss d.first (λ h. h good)) over in (e, d.none (omega arith));
    })
