-- What a code proof cites at each return of a read with its greatest counter: from the tests' values and the counters' sets to the whole promise. Assumes nothing.
use Prim.Native.Nat.{ℕ, ◌+◌, ◌<◌, ◌≤◌}
use mathlib.Core.Path.{◌≡◌, refl, sym, ap, ap₂, subst, ◌∙◌}
use mathlib.Core.Bool.{Bool, true, false, not, xor, cond}
use mathlib.Core.List.{List}
use Rattle.std.specs.Prelude.{Ok, Err}
use native.Mathlib.Omega.{arith}
use lib.ListN.{length, get_or, take}
use Rattle.std.specs.List.{count_by, zip}
use Rattle.bits.specs.Bits.{most}
use Rattle.bits.proofs.TestLaws.{xor_false}
use Rattle.bits.proofs.BoundLaws.{most_at}
use Rattle.bits.proofs.BitLaws.{has_high}
use Rattle.bits.proofs.ByteLaws.{length_words, words_narrow}
use Rattle.rdis.specs.Block.{bit}
use Rattle.rdis.specs.Cells.{flips, reading}
use Rattle.rdis.specs.Packing.{width, counter, row_counter, column_counter, above, spare_clear}
use Rattle.grid_sets.specs.Sets.{sets_of, odd, filled}
use Rattle.grid_sets.proofs.SetLaws.{odd_flips, odd_past, filled_most}
use Rattle.grid_sets.specs.Promises.{roomy, unpack_number, Numbers, Unpack}
use Rattle.grid_sets.proofs.JudgedLaws.{unpack_numbers}
use Rattle.refusals.proofs.NumberLaws.{number_some}
use Rattle.grid_sets.specs.declared.Counters.{Counters}
use Rattle.grid_sets.proofs.RoomLaws.{is_roomy_lem, accepts, none_above_k}
use Rattle.refusals.specs.Numbers.{number, index, number_of}
use Rattle.refusals.specs.declared.Refusal.{Refusal}
use Rattle.refusals.specs.declared.Refusal.TheVariants.{BitPastEnd}
use Rattle.grid_promises.specs.declared.ReadAnswer.{ReadAnswer}
use Rattle.grid_promises.specs.Promises.{Read}
use Rattle.grid_promises.specs.Calls.{in_range, past, read_sized, read_number, bad_index}
use Rattle.grid_promises.specs.Refusals.{InRange, ReadLengths}
use Rattle.grid_promises.proofs.RefusalLaws.{in_range_lem, read_sized_lem, within}
use Rattle.grid_promises.proofs.IndexLaws.{no_index, index_is_lem}
use Rattle.grid_promises.proofs.ReadDemands.{read_demands}
use Rattle.grid_patterns.specs.Promises.{inverted_by, Invert}
use Rattle.grid_patterns.proofs.InvertLaws.{can_invert}
use Rattle.grid_checks.specs.Numbers.{judged, read_judged}
use Rattle.grid.specs.Steps.{ShowSized, Shows, has_line}
use Rattle.grid.proofs.DepthLaws.{filled_is}
use Rattle.grid_levels.proofs.Returns.{passes, judged_refusal}

-- there are eight sets
sets_long : (n : ℕ) (f : ℕ → ℕ) → length (sets_of n f) ≡ 8
unfolding sets_of
sets_long n f = length_words 8 n _

module _ (m n k : ℕ) (cells counters out : List ℕ) where
  refused_read : (e : Refusal) → index e ≡ bad_index k (m + n) counters (number e) → number e ≡ read_number m n k cells counters (length out)
      → Read m n k cells counters out (record { number = number e; index = index e }) out
  refused_read e i h = read_demands m n k cells counters out (record { number = number e; index = index e }) out
      (record { number = h; index_is = i; untouched = λ _. refl; shown = λ z. absurd (omega (arith, number_some e, z)) })

  -- ---- numbers and lengths

  abbrev number_judged : ℕ
  number_judged = read_judged m n k (length cells) (length counters) (length out)

  abbrev sized : Bool
  sized = read_sized m n k (length cells) (length counters) (length out)

  pub show_judged : (e : Refusal) → number e ≡ number_judged → Read m n k cells counters out (record { number = number e; index = index e }) out
  unfolding judged read_number
  show_judged e h =
      let (x, other, i) = judged_refusal (in_range m n k) sized _ e h in
      refused_read e (i ∙ sym (no_index k (m + n) counters (number e) other)) x

  -- numbers and lengths that are right leave it to the words, and then let a function go on that knows the rows by the words alone; and what it promises is promised of the rows
  module _ (z : 0 ≡ number_judged) where
    right : (in_range m n k ≡ true) × (sized ≡ true)
    unfolding judged
    right = passes (in_range m n k) sized (sym z)

    lengths : ReadLengths m n k (length cells) (length counters) (length out)
    lengths = (read_sized_lem m n k (length cells) (length counters) (length out)).0 right.1

    pub show_past : past n cells ≡ true → Read m n k cells counters out (record { number = 3; index = 0 }) out
    unfolding read_number
    show_past h = refused_read BitPastEnd (sym (no_index k (m + n) counters 3 (λ f. omega arith))) (rw (right.0, right.1, h))

    pub show_goes_on : past n cells ≡ false → ShowSized n k cells counters out
    show_goes_on inside =
        let l = lengths in
        record { ranges = rw l.cell_words right.0; sizes = rw l.cell_words l.counter_bytes; room = l.out_words ∙ sym l.cell_words; inside = inside }

    pub show_comes_back : (a : ReadAnswer) (after : List ℕ) → Read (length cells) n k cells counters out a after → Read m n k cells counters out a after
    show_comes_back a after r = subst (λ y. Read y n k cells counters out a after) lengths.cell_words r

-- ---- the counters

module _ (n k upto : ℕ) (cells counters out : List ℕ) (p : ShowSized n k cells counters out) where
  range : InRange (length cells) n k
  range = (in_range_lem (length cells) n k).0 p.ranges

  sizes : read_sized (length cells) n k (length cells) (length counters) (length out) ≡ true
  sizes = (read_sized_lem (length cells) n k (length cells) (length counters) (length out)).1 (record { cell_words = refl; counter_bytes = p.sizes; out_words = p.room })

  -- there is room for the counters of a block in range
  room : roomy k (length cells) n (length counters) ≡ true
  room = is_roomy_lem k (length cells) n (length counters) (record { rows = range.rows.1; columns = range.columns.1; size = p.sizes })

  -- the counters decide
  module _ (c : Counters) (u : Unpack k (length cells) n counters c) where
    numbers : Numbers k (length cells + n) counters (unpack_number k (length cells) n counters) c.judged
    numbers = unpack_numbers k (length cells) n counters c u

    number_is : number_of c.judged ≡ cond (not (spare_clear (width k) (length cells + n) counters)) 3 (cond (above k (length cells + n) counters) 4 0)
    unfolding unpack_number
    number_is = numbers.number ∙ rw room

    read_number_lem : number_of c.judged ≡ read_number (length cells) n k cells counters (length out)
    unfolding read_number
    read_number_lem = number_is ∙ rw (p.ranges, sizes, p.inside)

    pub show_refused : (e : Refusal) → c.judged ≡ Err e → Shows (length cells) n k upto cells counters out (Err e) out
    show_refused e h = record {
      reads = refused_read (length cells) n k cells counters out e
          (index_is_lem k (length cells + n) counters (number e) (index e) (λ f. rw h at numbers.names f) (λ f. rw h at numbers.names_none f))
          (ap number_of (sym h) ∙ read_number_lem);
      greatest = λ _. tt;
    }

    module _ (z : c.judged ≡ Ok tt) where
      low : (t : ℕ) → t < length cells + n → counter (width k) counters t ≤ k
      low = none_above_k k (length cells + n) counters (accepts (spare_clear (width k) (length cells + n) counters) (above k (length cells + n) counters) (sym number_is ∙ ap number_of z)).1

      cell_inside : (i j : ℕ) → i < length cells → j < n
          → inverted_by c.rows c.columns k cells i j ≡ xor (flips (row_counter (width k) counters) (column_counter (width k) (length cells) counters) i j) (bit cells i j)
      unfolding inverted_by
      cell_inside i j h l =
          ap (λ t. xor t (bit cells i j))
          (ap₂ (λ x y. odd x y k i j) (u.row_sets room) (u.column_sets room)
          ∙ odd_flips (length cells) n k i j (row_counter (width k) counters) (column_counter (width k) (length cells) counters) (omega (arith, range.levels.1)) (low i (omega arith)) h l)

      cell_outside : (i j : ℕ) → n ≤ j → inverted_by c.rows c.columns k cells i j ≡ false
      unfolding inverted_by bit
      cell_outside i j h =
          ap₂ xor (ap (λ y. odd c.rows y k i j) (u.column_sets room) ∙ odd_past c.rows n k i j (column_counter (width k) (length cells) counters) h)
          (has_high n (get_or cells i 0) j ((within n cells).0 p.inside i) h)
          ∙ xor_false false

      shows : (after : List ℕ) → Invert c.rows c.columns k cells out after → after ≡ reading (length cells) n (row_counter (width k) counters) (column_counter (width k) (length cells) counters) cells
      unfolding reading
      shows after s =
          s.inverted (can_invert k (length cells) (length out) (omega (arith, range.levels.1)) range.rows.1 p.room)
          ∙ words_narrow (length cells) n 64 _ _ range.columns.1 cell_inside (λ i j _ h _. cell_outside i j h)

      depth_is : filled c.rows c.columns k ≡ most (length cells + n) (counter (width k) counters)
      depth_is =
          let (t, l, e) = most_at (length cells + n) (counter (width k) counters) (omega (arith, range.rows.0)) in
          ap₂ (λ x y. filled x y k) (u.row_sets room) (u.column_sets room)
          ∙ filled_most (length cells) n k (counter (width k) counters) (omega (arith, range.levels.1)) (omega (arith, low t l))

      pub show_done : (levels : ℕ) (after : List ℕ) → upto ≤ 8 → levels ≡ count_by has_line (take upto (zip c.rows c.columns)) → Invert c.rows c.columns k cells out after
          → Shows (length cells) n k upto cells counters out (Ok levels) after
      show_done levels after few l i = record {
        reads = read_demands (length cells) n k cells counters out (record { number = 0; index = 0 }) after (record {
          number = ap number_of (sym z) ∙ read_number_lem;
          index_is = sym (no_index k (length cells + n) counters 0 (λ f. omega arith));
          untouched = λ h. absurd (omega arith);
          shown = λ _. shows after i;
        });
        greatest = λ f. l ∙ filled_is c.rows c.columns upto (rw (u.row_sets room, sets_long) few) (rw (u.column_sets room, sets_long) few) ∙ ap (filled c.rows c.columns) f ∙ depth_is;
      }
