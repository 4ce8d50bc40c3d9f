-- Laws of text: what it is, how long it is, and how it is put. Assumes nothing.
use mathlib.Core.Path.{◌≡◌, refl, sym, ap, ap₂, subst, ◌∙◌}
use mathlib.Core.Bool.{Bool, true, false, cond}
use mathlib.Core.List.{List, [], ◌∷◌, ◌++◌, append_assoc, append-nil}
use Prim.Native.Nat.{ℕ, zero, suc, ◌+◌, ◌-◌, ◌/◌, ◌%◌, ◌^◌, ◌≤◌, ◌<◌, min}
use native.Mathlib.Nat.{pow-suc}
use native.Mathlib.Omega.{arith}
use native.Mathlib.Decide.{dec_lt}
use lib.Dec.{ltb}
use lib.ListN.{length, take, drop, set, length-append, length-take, length-drop, take-append-drop, drop_of_length-le}
use lib.Seq.{take_all, drop-drop, set_split, drop_at, length-take-le, take_at}
use borrow.Author.Tests.{lt-ltb, le-ltb}
use borrow.Rule.Slice.PartMut.{put_mid, mid_of}
use Rattle.wire.proofs.PartLaws.{take_least}
use Rattle.wire.specs.Text.{hex_digit_ascii, last_digits, hex_of, decimals, decimal, fitting, Put}

-- ---- text put into a buffer

take_none : (n : ℕ) → take {A = ℕ} n [] ≡ []
take_none zero = refl
take_none (suc n) = refl

take_both : (n : ℕ) (t u : List ℕ) → take n (t ++ u) ≡ take n t ++ take (n - length t) u
take_both zero t u = let z : 0 - length t ≡ 0 = omega arith in rw z
take_both (suc n) [] u = let z : suc n - 0 ≡ suc n = omega arith in rw z
take_both (suc n) (x ∷ t) u = let z : suc n - suc (length t) ≡ n - length t = omega arith in rw (z, take_both n t u)

pub put_none : {out : List ℕ} {p : ℕ} → Put [] out p out p
unfolding fitting
put_none {out} {p} = record { end = rw take_none (omega arith); holds = rw take_none (sym (take-append-drop p out)) }

-- past the end there is no room
pub put_past : {text out : List ℕ} {p : ℕ} → length out ≤ p → Put text out p out p
unfolding fitting
put_past {text} {out} {p} h =
    let z : length out - p ≡ 0 = omega arith in
    record { end = rw z (omega arith); holds = rw z (sym (take-append-drop p out)) }

-- and what was put there left nothing
left_past : {text a b : List ℕ} {p q : ℕ} → length a ≤ p → Put text a p b q → (b ≡ a) × (q ≡ p)
unfolding fitting
left_past {text} {a} {b} {p} {q} l h =
    let z : length a - p ≡ 0 = omega arith in
    let e : q ≡ p = h.end ∙ rw z (omega arith) in
    (h.holds ∙ rw z (cc (take-append-drop p a)), e)

pub put_same : {t u a b : List ℕ} {p q : ℕ} → t ≡ u → Put t a p b q → Put u a p b q
put_same {t} {u} {a} {b} {p} {q} e h = subst (λ x. Put x a p b q) e h

-- it ends within the buffer
pub put_within : {t a b : List ℕ} {p q : ℕ} → p ≤ length a → Put t a p b q → q ≤ length a
unfolding fitting
put_within {t} {a} {p = p} l h = omega (arith, h.end, length-take (length a - p) t)

-- a text and then another are one text
module _ {t u a b c : List ℕ} {p q r : ℕ} (x : Put t a p b q) (y : Put u b q c r) (l : p ≤ length a) where
  abbrev first : List ℕ
  first = fitting t a p

  abbrev second : List ℕ
  second = fitting u b q

  head : length (take p a ++ first) ≡ q
  head = length-append (take p a) first ∙ ap (λ n. n + length first) (length-take-le p a l) ∙ sym x.end

  split : b ≡ (take p a ++ first) ++ drop q a
  split = x.holds ∙ sym (append_assoc (take p a) first (drop q a))

  same_length : length b ≡ length a
  same_length = ap length split ∙ rw (length-append, head, length-drop) (omega (arith, put_within l x))

  both_fitting : fitting (t ++ u) a p ≡ first ++ second
  unfolding fitting
  both_fitting =
      let e : length a - p - length t ≡ length b - q = omega (arith, x.end, same_length, length-take (length a - p) t) in
      take_both (length a - p) t u ∙ ap (λ n. take (length a - p) t ++ take n u) e

  both_inside : Put (t ++ u) a p c r
  both_inside = record {
    end = y.end ∙ rw (both_fitting, length-append) (omega (arith, x.end));
    holds =
        y.holds ∙ ap₂ (λ l m. l ++ (second ++ m)) (ap (take q) split ∙ take_at (take p a ++ first) (drop q a) q head) rest
        ∙ append_assoc (take p a) first (second ++ drop r a) ∙ ap (λ l. take p a ++ l) (sym (append_assoc first second (drop r a))) ∙ rw both_fitting;
  }
    where
      rest : drop r b ≡ drop r a
      rest =
          ap (λ n. drop n b) y.end ∙ sym (drop-drop (length second) q b) ∙ ap (drop (length second)) (ap (drop q) split ∙ drop_at (take p a ++ first) (drop q a) q head)
          ∙ drop-drop (length second) q a ∙ ap (λ n. drop n a) (sym y.end)

pub put_both : {t u a b c : List ℕ} {p q r : ℕ} → Put t a p b q → Put u b q c r → Put (t ++ u) a p c r
put_both {t} {u} {a} {b} {c} {p} {q} {r} x y =
    elim (dec_lt (length a) p) [
      | yes l ↦
          let (e, f) = left_past (omega arith) x in
          let (g, h) = left_past (rw (e, f) (omega arith)) y in
          subst (λ m. Put (t ++ u) a p m r) (sym (g ∙ e)) (subst (λ m. Put (t ++ u) a p a m) (sym (h ∙ f)) (put_past (omega arith)))
      | no l ↦ both_inside x y (omega arith)
    ]

-- where there is room, the whole text was put
pub all_fits : (text buffer : List ℕ) (p : ℕ) → p + length text ≤ length buffer → fitting text buffer p ≡ text
unfolding fitting
all_fits text buffer p h = take_all (length buffer - p) text (omega arith)

-- where there is room, all bytes are copied
pub all_copied : (from into : List ℕ) {part : List ℕ} {r : ℕ} → length from ≤ length into → r ≡ min (length from) (length into)
    → part ≡ take (min (length from) (length into)) from ++ drop (min (length from) (length into)) into
    → (r ≡ length from) × (part ≡ from ++ drop (length from) into)
all_copied from into {part} {r} h e f =
    let m : min (length from) (length into) ≡ length from = omega arith in
    (e ∙ m, f ∙ ap (λ k. take k from ++ drop k into) m ∙ ap (λ x. x ++ drop (length from) into) (take_all (length from) from (omega arith)))

-- there is room behind place p for as many bytes as were measured
pub has_place : (text out : List ℕ) (p n : ℕ) → n ≡ min (length out - p) (length text)
    → length (take n text) ≤ length (take (length out - p) (drop p out))
has_place text out p n e = simp (length-take, length-drop) (omega arith)

-- the first n bytes of a text were copied to the front of what there is from place p on
pub put_copied : (text out : List ℕ) (p n : ℕ) {part : List ℕ} {r : ℕ} → p ≤ length out → n ≡ min (length out - p) (length text) → r ≡ length (take n text)
    → part ≡ take n text ++ drop (length (take n text)) (mid_of p (length out - p) out) → Put text out p (put_mid p (length out - p) out part) (p + r)
unfolding fitting
put_copied text out p n {part} {r} l e f g =
    let k : ℕ = length out - p in
    let m : length (take n text) ≡ n = length-take-le n text (omega arith) in
    let whole : mid_of p k out ≡ drop p out = take_all k (drop p out) (rw length-drop (omega arith)) in
    let nothing : drop k (drop p out) ≡ [] = drop_of_length-le (drop p out) {i = k} (rw length-drop (omega arith)) in
    let fit = take_least text k n e in
    let rest : drop n (drop p out) ≡ drop (p + r) out = drop-drop n p out ∙ ap (λ i. drop (p + i) out) (sym (f ∙ m)) in
    let here : part ≡ take k text ++ drop (p + r) out = g ∙ ap₂ ◌++◌ fit (ap₂ drop m whole ∙ rest) in
    record { end = ap (λ i. p + i) (f ∙ ap length fit); holds = ap (λ x. take p out ++ x) (ap₂ ◌++◌ here nothing ∙ append-nil (take k text ++ drop (p + r) out)) }

-- there is no second answer
pub one_put : {t a b b' : List ℕ} {p q q' : ℕ} → Put t a p b q → Put t a p b' q' → (q ≡ q') × (b ≡ b')
one_put {t} {a} {p = p} h k =
    let e = h.end ∙ sym k.end in
    (e, h.holds ∙ ap (λ x. take p a ++ (fitting t a p ++ drop x a)) e ∙ sym k.holds)

-- ---- hexadecimal digits

pub length_hex_of : (n x : ℕ) → length (hex_of n x) ≡ n
unfolding hex_of
length_hex_of zero x = refl
length_hex_of (suc n) x = rw (length-append, length_hex_of n (x / 16)) (omega arith)

-- a loop that fills a text from its end: one digit more, and all of them
hex_step : (j rest d : ℕ) (text goal : List ℕ) → j < length text → hex_of (suc j) rest ++ drop (suc j) text ≡ goal → d ≡ hex_digit_ascii (rest % 16)
    → hex_of j (rest / 16) ++ drop j (set text j d) ≡ goal
unfolding hex_of
hex_step j rest d text goal l h e =
    ap (λ y. hex_of j (rest / 16) ++ y) (ap (drop j) (set_split text j d l) ∙ drop_at (take j text) (d ∷ drop (suc j) text) j (length-take-le j text (omega arith)))
    ∙ rw e (sym (append_assoc (last_digits 16 j (rest / 16)) (hex_digit_ascii (rest % 16) ∷ []) (drop (suc j) text))) ∙ h

pub hex_all : (i rest : ℕ) (text goal : List ℕ) → i ≤ 0 → hex_of i rest ++ drop i text ≡ goal → text ≡ goal
unfolding hex_of
hex_all i rest text goal l h = let k : i ≡ 0 = omega arith in subst (λ n. hex_of n rest ++ drop n text ≡ goal) k h

pub hex_more : (i rest d : ℕ) (text goal : List ℕ) → 0 < i → i ≤ length text → hex_of i rest ++ drop i text ≡ goal → d ≡ hex_digit_ascii (rest % 16)
    → hex_of (i - 1) (rest / 16) ++ drop (i - 1) (set text (i - 1) d) ≡ goal
hex_more i rest d text goal p l h e =
    let k : i ≡ suc (i - 1) = omega arith in
    hex_step (i - 1) rest d text goal (omega arith) (subst (λ n. hex_of n rest ++ drop n text ≡ goal) k h) e

-- ---- decimals

decimals_few : (f x : ℕ) → x < 10 → decimals (suc f) x ≡ hex_digit_ascii x ∷ []
unfolding decimals
decimals_few f x h = rw (lt-ltb x 10 h)

decimals_many : (f x : ℕ) → 10 ≤ x → decimals (suc f) x ≡ decimals f (x / 10) ++ (hex_digit_ascii (x % 10) ∷ [])
unfolding decimals
decimals_many f x h = rw (le-ltb x 10 h)

-- digits that are not needed change nothing
enough : (f x : ℕ) → x < 10 ^ suc f → decimals (suc (suc f)) x ≡ decimals (suc f) x
enough zero x h = let l : x < 10 = omega (arith, pow-suc 10 0) in decimals_few 1 x l ∙ sym (decimals_few 0 x l)
enough (suc f) x h =
    elim (dec_lt x 10) [
      | yes l ↦ decimals_few (suc (suc f)) x l ∙ sym (decimals_few (suc f) x l)
      | no l ↦ decimals_many (suc (suc f)) x (omega arith) ∙ ap (λ l. l ++ (hex_digit_ascii (x % 10) ∷ [])) (enough f (x / 10) (omega (arith, pow-suc 10 (suc f)))) ∙ sym (decimals_many (suc f) x (omega arith))
    ]

pub put_few : {a b : List ℕ} {p q d : ℕ} (x : ℕ) → x < 10 → d ≡ hex_digit_ascii x → Put (d ∷ []) a p b q → Put (decimal x) a p b q
put_few x l e h = put_same (ap (λ y. y ∷ []) e ∙ sym (decimals_few 19 x l)) h

pub put_many : {a b c : List ℕ} {p q r d : ℕ} (x : ℕ) → 10 ≤ x → x < 18446744073709551616 → d ≡ hex_digit_ascii (x % 10) → Put (decimal (x / 10)) a p b q → Put (d ∷ []) b q c r
    → Put (decimal x) a p c r
put_many x k l e h i =
    put_same (ap₂ (λ f y. f ++ (y ∷ [])) (enough 18 (x / 10) (omega arith)) e ∙ sym (decimals_many 19 x k)) (put_both h i)

-- ---- lengths

pub length_decimals : (f x : ℕ) → length (decimals f x) ≤ f
unfolding decimals
length_decimals zero x = omega arith
length_decimals (suc f) x = go (ltb x 10) (length_decimals f (x / 10))
  where
    go : (t : Bool) → length (decimals f (x / 10)) ≤ f → length (cond t (hex_digit_ascii x ∷ []) (decimals f (x / 10) ++ (hex_digit_ascii (x % 10) ∷ []))) ≤ suc f
    go true h = omega arith
    go false h = rw length-append (omega arith)
