-- What is cut short may still become a call: with enough zeros behind it, it is one. So the program waits only where waiting may help. Assumes nothing.
use mathlib.Core.Path.{◌≡◌, refl, sym, ap, ◌∙◌}
use mathlib.Core.Bool.{true, false, cond, not}
use mathlib.Core.List.{List, [], ◌∷◌, ◌++◌}
use Prim.Native.Nat.{ℕ, zero, suc, ◌+◌, ◌*◌, ◌≤◌, ◌<◌}
use native.Mathlib.Nat.{mul-le-mul_left}
use native.Mathlib.Omega.{arith}
use native.Mathlib.Decide.{dec_lt}
use lib.Dec.{eqb}
use lib.ListN.{length, get_or, take, drop, length-append, get_or-append}
use lib.Seq.{get_or-drop}
use borrow.Author.Tests.{eqb-false, le-leb, not-true}
use Rattle.bits.specs.Bits.{number, some, Below, number_at}
use Rattle.bits.proofs.TestLaws.{clash, and_right, or_neither}
use Rattle.bits.proofs.BoundLaws.{none_below}
use Rattle.words.proofs.LoadLaws.{number_before}
use Rattle.calls.specs.Format.{many, is_buffer, is_over, after_numbers, after_buffer, table, form_of, place_of, form_end, is_bad, call_end, is_cut_short}
use Rattle.calls.specs.Claims.{MayBeCall}
use Rattle.calls.specs.declared.kind.Form.{Form}
use Rattle.calls.proofs.FormatLaws.{Stands, a_buffer, over_is, Small, small_form, some_buffers}
use Rattle.calls.proofs.StreamLaws.{place_most, place_more}

zeros : ℕ → List ℕ
zeros zero = []
zeros (suc n) = 0 ∷ zeros n

length_zeros : (n : ℕ) → length (zeros n) ≡ n
unfolding zeros
length_zeros zero = refl
length_zeros (suc n) = ap suc (length_zeros n)

-- past the bytes there are zeros
zero_past : (bs : List ℕ) (n j : ℕ) → length bs ≤ j → get_or (bs ++ zeros n) j 0 ≡ 0
unfolding zeros
zero_past [] zero j h = refl
zero_past [] (suc n) zero h = refl
zero_past [] (suc n) (suc j) h = zero_past [] n j (omega arith)
zero_past (b ∷ bs) n zero h = absurd (omega arith)
zero_past (b ∷ bs) n (suc j) h = zero_past bs n j (omega arith)

two : (xs : List ℕ) → number 256 (take 2 xs) ≡ get_or xs 1 0 * 256 + get_or xs 0 0
unfolding number
two [] = refl
two (x ∷ []) = omega arith
two (x ∷ y ∷ xs) = omega arith

module _ (bs : List ℕ) (below : Below 256 bs) (n : ℕ) (l : 41003 ≤ n) (f : Form) (s : Small f) (fine : (k : ℕ) → k < f.buffers → is_over bs (place_of bs f k) ≡ false) where
  abbrev longer : List ℕ
  longer = bs ++ zeros n

  long : length longer ≡ length bs + n
  long = length-append bs (zeros n) ∙ ap (λ m. length bs + m) (length_zeros n)

  byte : (j : ℕ) → get_or longer j 0 < 256
  byte j = elim (dec_lt j (length bs)) [ yes h ↦ rw (get_or-append bs (zeros n) 0 j h) (below j) | no h ↦ rw (zero_past bs n j (omega arith)) (omega arith) ]

  -- a number of elements that is not there whole is small
  little : (p : ℕ) → length bs ≤ p + 1 → many longer p ≤ 1024
  unfolding number_at
  little p h =
      let e : get_or (drop p longer) 1 0 ≡ 0 = get_or-drop p longer 1 0 ∙ zero_past bs n (p + 1) h in
      let b : get_or (drop p longer) 0 0 < 256 = rw get_or-drop (byte (p + 0)) in
      omega (arith, two (drop p longer))

  record Goes (i : ℕ) : Type 0 where
    on : place_of longer f i ≡ 0 → ⊥
    past : place_of bs f i ≡ 0 → length bs ≤ place_of longer f i

  few : (i : ℕ) → i < f.buffers → Goes i → many longer (place_of longer f i) ≤ 1024
  few i b g =
      let p : ℕ = place_of longer f i in
      elim (dec_lt (p + 1) (length bs)) [
        | yes h ↦
            let z : place_of bs f i ≡ 0 → ⊥ = λ z. omega (arith, g.past z) in
            let e : p ≡ place_of bs f i = place_more bs (zeros n) f i z in
            let m : many longer p ≡ many bs p = number_before bs (zeros n) p 2 (omega arith) in
            elim (dec_lt 1024 (many bs p)) [
              | yes o ↦ clash (over_is bs p (record { place = g.on; said = omega arith; many = o })) (ap (is_over bs) e ∙ fine i b)
              | no o ↦ omega arith
            ]
        | no h ↦ little p (omega arith)
      ]

  goes : (i : ℕ) → i ≤ f.buffers → Goes i
  unfolding place_of after_numbers
  goes zero b =
      let e = le-leb (1 + 8 * f.numbers) (length longer) (omega (arith, s.numbers, long)) in
      let q : place_of longer f zero ≡ 1 + 8 * f.numbers = ap (λ t. cond t (1 + 8 * f.numbers) 0) e in
      record {
        on = λ z. omega (arith, q);
        past = λ z.
            elim (dec_lt (length bs) (1 + 8 * f.numbers)) [
              | yes h ↦ omega (arith, q)
              | no h ↦
                  let k : 1 + 8 * f.numbers ≡ 0 = ap (λ t. cond t (1 + 8 * f.numbers) 0) (sym (le-leb (1 + 8 * f.numbers) (length bs) (omega arith))) ∙ z in
                  absurd (omega arith)
            ];
      }
  goes (suc i) b =
      let g = goes i (omega arith) in
      let p : ℕ = place_of longer f i in
      let w : ℕ = get_or f.widths i 0 in
      let m = few i (omega arith) g in
      let st : Stands longer p w = record { place = g.on; few = m; whole = omega (arith, mul-le-mul_left w m, s.widths i, place_most longer f s i, long, s.buffers) } in
      let q = a_buffer longer p w st in
      record {
        on = λ z. omega (arith, q);
        past = λ z.
            elim (dec_lt (length bs) (p + 2 + w * many longer p)) [
              | yes h ↦ omega (arith, q)
              | no h ↦
                  let y : place_of bs f i ≡ 0 → ⊥ = λ y. omega (arith, g.past y) in
                  let e : p ≡ place_of bs f i = place_more bs (zeros n) f i y in
                  let k : many longer p ≡ many bs p = number_before bs (zeros n) p 2 (omega arith) in
                  let j = ap (λ x. w * x) k in
                  let v : after_buffer bs p w ≡ 0 = ap (λ x. after_buffer bs x w) e ∙ z in
                  absurd (omega (arith, a_buffer bs p w (record { place = g.on; few = omega arith; whole = omega arith }), v))
            ];
      }

started : (t : ℕ) (bs : List ℕ) → Below 256 (t ∷ bs) → is_cut_short (t ∷ bs) ≡ true → (rest : List ℕ) × (call_end (t ∷ bs ++ rest) ≡ 0 → ⊥)
unfolding is_cut_short is_bad
started t bs below h =
    let f : Form = form_of t in
    let (a, b) = or_neither (eqb f.buffers 0) (some f.buffers (λ i. is_over (t ∷ bs) (place_of (t ∷ bs) f i))) (not-true (is_bad (t ∷ bs) f) (and_right (eqb (call_end (t ∷ bs)) 0) (not (is_bad (t ∷ bs) f)) h)) in
    let g = goes (t ∷ bs) below 41003 (omega arith) f (small_form t) (none_below f.buffers (λ i. is_over (t ∷ bs) (place_of (t ∷ bs) f i)) b) f.buffers (omega arith) in
    (zeros 41003, λ z. g.on (some_buffers (t ∷ bs ++ zeros 41003) f (eqb-false f.buffers 0 a) ∙ z))

-- a tag alone is cut short
tag_alone : is_cut_short (1 ∷ []) ≡ true
unfolding is_cut_short is_bad table form_of place_of form_end after_numbers after_buffer is_buffer is_over some number_at number
tag_alone = refl

one_byte : Below 256 (1 ∷ [])
one_byte zero = omega arith
one_byte (suc i) = omega arith

pub may_be_call : MayBeCall
may_be_call [] below h = let (rest, g) = started 1 [] one_byte tag_alone in (1 ∷ rest, g)
may_be_call (t ∷ bs) below h = started t bs below h
