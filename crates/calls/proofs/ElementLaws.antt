-- Laws of the elements of a buffer, and of loading them. Assumes nothing.
use mathlib.Core.Path.{◌≡◌, refl, sym, ap, ◌∙◌}
use mathlib.Core.List.{List}
use Prim.Native.Nat.{ℕ, ◌+◌, ◌-◌, ◌*◌, ◌≤◌, ◌<◌}
use native.Mathlib.Nat.{mul-le-mul_left}
use native.Mathlib.Omega.{arith}
use native.Mathlib.Decide.{dec_lt}
use lib.ListN.{length, get_or, get_or-eq_default, take, drop, set, length-take, length-drop}
use Rattle.std.specs.Prelude.{map}
use Rattle.std.proofs.lemmas.List.{length-map, map-set}
use lib.Seq.{get_or-take, get_or-drop, drop-cons}
use Rattle.bits.specs.Bits.{number, list, number_at}
use Rattle.words.proofs.LoadLaws.{none_left}
use Rattle.bits.proofs.BoundLaws.{length_list, list_get_or, list_more, list_done}
use Rattle.calls.specs.Format.{many, elements, place, buffer_of}
use Rattle.calls.proofs.FormatLaws.{Stands, Held, held_stands}

pub length_elements : (bs : List ℕ) (p w : ℕ) → length (elements bs p w) ≡ many bs p
unfolding elements
length_elements bs p w = length_list (many bs p) (λ i. number_at bs (p + 2 + w * i) w)

byte_there : (bs : List ℕ) (p : ℕ) → p < length bs → get_or bs p 0 ≡ number_at bs p 1
unfolding number_at number
byte_there bs p h = rw (drop-cons bs p 0 h) (omega arith)

pub byte_number : (bs : List ℕ) (p : ℕ) → get_or bs p 0 ≡ number_at bs p 1
byte_number bs p = elim (dec_lt p (length bs)) [ yes l ↦ byte_there bs p l | no n ↦ get_or-eq_default bs 0 {n = p} (omega arith) ∙ none_left p 1 bs (omega arith) ]

-- elements of one byte are the bytes themselves
bytes_elements : (bs : List ℕ) (p n : ℕ) → Stands bs p 1 → n ≡ many bs p → take (p + 2 + n - (p + 2)) (drop (p + 2) bs) ≡ elements bs p 1
unfolding elements
bytes_elements bs p n h e =
    let m : ℕ = p + 2 + n - (p + 2) in
    list_get_or (many bs p) (λ i. number_at bs (p + 2 + 1 * i) 1) 0 (take m (drop (p + 2) bs)) (rw (length-take, length-drop) (omega (arith, h.whole)))
    (λ i l.
    let same : p + 2 + i ≡ p + 2 + 1 * i = omega arith in
    get_or-take m (drop (p + 2) bs) i 0 (omega arith) ∙ get_or-drop (p + 2) bs i 0 ∙ ap (λ q. get_or bs q 0) same ∙ byte_number bs (p + 2 + 1 * i))

-- so are those of a buffer of bytes, from its place on
pub bytes_of : {bs : List ℕ} {tag i p n : ℕ} → Held bs tag i 1 → p ≡ place bs tag i → n ≡ many bs p → take (p + 2 + n - (p + 2)) (drop (p + 2) bs) ≡ buffer_of bs tag i
unfolding buffer_of
bytes_of {bs} {tag} {i} {p} {n} h e k = rw h.wide (bytes_elements bs p n (held_stands h e) k ∙ ap (λ x. elements bs x 1) e)

-- a buffer of a call has at most 1,024 elements
pub few_of : {bs xs : List ℕ} {tag i w : ℕ} → Held bs tag i w → xs ≡ buffer_of bs tag i → length xs ≤ 1024
unfolding buffer_of
few_of h e = rw (e, length_elements) (held_stands h refl).few

-- the first j of them lie within the bytes
pub first_within : {bs : List ℕ} {p w n j : ℕ} → Stands bs p w → n ≡ many bs p → j ≤ n → p + 2 + w * j ≤ length bs
first_within {w = w} h e l = omega (arith, h.whole, mul-le-mul_left w l, ap (λ x. w * x) e)

-- a loop that reads elements of w bytes, of each of which the number is at its place: none yet, one more, and all of them
module _ {A : Type 0} (number : A → ℕ) (bs : List ℕ) (p w : ℕ) where
  abbrev pub at_place : ℕ → ℕ
  at_place j = number_at bs (p + 2 + w * j) w

  pub read_none : (out : List A) → take 0 (map number out) ≡ list 0 at_place
  unfolding list
  read_none out = refl

  pub read_more : (j : ℕ) (x : A) (out : List A) → j < length out → number x ≡ at_place j → take j (map number out) ≡ list j at_place
      → take (j + 1) (map number (set out j x)) ≡ list (j + 1) at_place
  read_more j x out l e h = rw map-set (list_more j at_place (number x) (map number out) (rw length-map l) h e)

pub read_all : {A : Type 0} (number : A → ℕ) {bs : List ℕ} {tag i w p n j : ℕ} (out : List A) → Held bs tag i w → p ≡ place bs tag i → n ≡ many bs p → length out ≡ n → j ≡ n
    → take j (map number out) ≡ list j (at_place number bs p w) → map number out ≡ buffer_of bs tag i
unfolding buffer_of elements
read_all number {bs} {tag} {i} {w} {p} {n} {j} out h e k l m r =
    list_done j n (at_place number bs p w) (map number out) (length-map out number ∙ l) m r
    ∙ ap (λ m. list m (at_place number bs p w)) k ∙ ap (λ q. elements bs q w) e ∙ ap (elements bs (place bs tag i)) (sym h.wide)
