-- Laws of the whole run: the bytes that came are those of the calls that were made, and what is left of them. Assumes nothing.
use mathlib.Core.Path.{◌≡◌, refl, sym, ap, ap₂, subst, transport, ◌∙◌}
use mathlib.Core.Bool.{Bool}
use mathlib.Core.List.{List, [], ◌∷◌, ◌++◌, append-nil}
use Prim.Native.Nat.{ℕ, zero, suc, ◌+◌, ◌-◌, ◌≤◌}
use native.Mathlib.Numerals.{add-one}
use native.Mathlib.Omega.{arith}
use native.Mathlib.Decide.{ℕ_discrete}
use lib.ListN.{length, take, drop, length-append, length-drop, take-append-drop}
use lib.Seq.{drop-append-le, drop-drop, take-take, take-nil}
use Rattle.calls.specs.Stream.{State}
use Rattle.calls.specs.Format.{call_end}
use Rattle.calls.specs.Stream.{left, Fetched, Turned, paused, Turn, fetched, done, written, called, Turns, none, next, start, came_in, came, CallsTo, no_call, one_more}
use Rattle.calls.specs.Claims.{CallsComeFirst}
use Rattle.calls.proofs.StreamLaws.{call_more, call_within, whole_not_cut}

-- ---- calls, with bytes that follow

calls_more : {bs : List ℕ} {n p : ℕ} (rest : List ℕ) → CallsTo bs n p → CallsTo (bs ++ rest) n p
calls_more rest no_call = no_call
calls_more {bs} rest (one_more {n} {p} c h) =
    let l : p ≤ length bs = omega (arith, call_within (drop p bs), length-drop p bs, h) in
    let e : call_end (drop p (bs ++ rest)) ≡ call_end (drop p bs) = ap call_end (drop-append-le p bs rest l) ∙ call_more (drop p bs) rest (whole_not_cut (drop p bs) h) in
    subst (λ x. CallsTo (bs ++ rest) (suc n) (p + x)) e (one_more (calls_more rest c) (λ z. h (sym e ∙ z)))

-- ---- parts of a buffer

drop_take : (c n : ℕ) (xs : List ℕ) → drop c (take n xs) ≡ take (n - c) (drop c xs)
drop_take zero n xs = let e : n - 0 ≡ n = omega arith in rw e
drop_take (suc c) zero xs = let e : 0 - suc c ≡ 0 = omega arith in rw e
drop_take (suc c) (suc n) [] = sym (take-nil (suc n - suc c))
drop_take (suc c) (suc n) (x ∷ xs) = let e : suc n - suc c ≡ n - c = omega arith in rw e (drop_take c n xs)

-- what is left without its first c bytes
left_drop : (xs : List ℕ) (p q c : ℕ) → drop c (left xs p q) ≡ left xs (p + c) q
left_drop xs p q c =
    let e : q - p - c ≡ q - (p + c) = omega arith in
    drop_take c (q - p) (drop p xs) ∙ ap₂ take e (drop-drop c p xs)

-- ---- what came

-- of the bytes that came, the calls come first, and what is left starts at the offset
record Came (bs : List ℕ) (s : State) (input : List ℕ) : Type 0 where
  used : s.offset ≤ length bs
  rest : drop s.offset bs ≡ left input s.at s.end
  calls : CallsTo bs s.calls s.offset

came_fetched : {bs input input' : List ℕ} {s r : State} → Came bs s input → Fetched s input r input' → Came (bs ++ drop (s.end - s.at) (take r.end input')) r input'
came_fetched {bs} {input} {input'} {s} {r} h f =
    let n : ℕ = s.end - s.at in
    let new : List ℕ = drop n (take r.end input') in
    let (c, o) = f.counted in
    let whole : left input s.at s.end ++ new ≡ take r.end input' =
    ap (λ x. x ++ new) (sym f.kept ∙ sym (take-take n r.end input' f.behind)) ∙ take-append-drop n (take r.end input') in
    let all : r.end ≡ r.end - 0 = omega arith in
    let front : take r.end input' ≡ left input' r.at r.end = ap (λ x. take x input') all ∙ ap (λ x. left input' x r.end) (sym f.front) in
    record {
      used = rw length-append (omega (arith, h.used));
      rest = ap (λ x. drop x (bs ++ new)) o ∙ drop-append-le s.offset bs new h.used ∙ ap (λ x. x ++ new) h.rest ∙ whole ∙ front;
      calls = transport (λ i. CallsTo (bs ++ new) (sym c i) (sym o i)) (calls_more new h.calls);
    }

came_paused : {bs input : List ℕ} {s r : State} {going : Bool} {put : ℕ} → Came bs s input → r ≡ paused s going put → Came bs r input
came_paused {bs} {input} h e = subst (λ x. Came bs x input) (sym e) (record { used = h.used; rest = h.rest; calls = h.calls })

came_turned : {bs input before after : List ℕ} {s r : State} → Came bs s input → Turned s input before r after → Came bs r input
came_turned {bs} {input} {s = s} {r} h t =
    let front : List ℕ = left input s.at s.end in
    let u : r.at ≡ s.at + call_end front = t.used [] (λ _. refl) ∙ ap (λ x. s.at + call_end x) (append-nil front) in
    let o : r.offset ≡ s.offset + call_end front = omega (arith, t.offset) in
    let e : call_end (drop s.offset bs) ≡ call_end front = ap call_end h.rest in
    record {
      used = omega (arith, h.used, call_within (drop s.offset bs), length-drop s.offset bs);
      rest =
          ap (λ x. drop x bs) o ∙ sym (drop-drop (call_end front) s.offset bs) ∙ ap (drop (call_end front)) h.rest ∙ left_drop input s.at s.end (call_end front)
          ∙ ap₂ (left input) (sym u) (sym t.same.0);
      calls = elim (ℕ_discrete r.at s.at) [
        | yes a ↦ let z : r.offset ≡ s.offset = omega (arith, t.offset) in transport (λ i. CallsTo bs (sym (t.not_counted a) i) (sym z i)) h.calls
        | no a ↦
            let c : suc s.calls ≡ r.calls = sym (t.counted a ∙ add-one s.calls) in
            let k : s.offset + call_end (drop s.offset bs) ≡ r.offset = omega arith in
            transport (λ i. CallsTo bs (c i) (k i)) (one_more h.calls (λ z. a (omega arith)))
      ];
    }

no_more : {bs input input' : List ℕ} {r : State} → input' ≡ input → Came bs r input → Came (bs ++ []) r input'
no_more {bs} {input} {input'} {r} e h = transport (λ i. Came (sym (append-nil bs) i) r (sym e i)) h

came_turn : {bs input output input' output' : List ℕ} {s r : State} → Came bs s input → (t : Turn s input output r input' output') → Came (bs ++ came_in t) r input'
unfolding came_in
came_turn h (fetched _ _ _ f _) = came_fetched h f
came_turn h (done _ _ e i _) = no_more i (came_paused h e)
came_turn h (written _ _ e i _) = no_more i (came_paused h e)
came_turn h (called t i) = no_more i (came_turned h t)

came_all : {input output input' output' : List ℕ} {n : ℕ} {s : State} (t : Turns start input output n s input' output') → Came (came t) s input'
unfolding came
came_all none = record { used = omega arith; rest = refl; calls = no_call }
came_all (next t _ turn) = came_turn (came_all t) turn

pub calls_first : CallsComeFirst
calls_first input output input' output' n s t = let h = came_all t in (h.rest, h.calls)
