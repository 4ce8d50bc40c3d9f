-- How many calls were made, and how many bytes they took: so few that neither number is ever too large. Assumes nothing.
use mathlib.Core.Path.{◌≡◌, refl, ap}
use mathlib.Core.Bool.{Bool}
use mathlib.Core.List.{List, [], ◌++◌}
use Prim.Native.Nat.{ℕ, suc, ◌+◌, ◌<◌}
use native.Mathlib.Omega.{arith}
use native.Mathlib.Decide.{ℕ_discrete}
use Rattle.calls.specs.Stream.{State}
use Rattle.calls.specs.Calls.{Printed}
use Rattle.calls.specs.Stream.{left, Counted, Turned, paused, Turn, fetched, done, written, called}
use Rattle.calls.proofs.StreamLaws.{call_most}

paused_counted : {s r : State} {going : Bool} {put : ℕ} (n : ℕ) → Counted n s → r ≡ paused s going put → Counted (suc n) r
paused_counted n h e =
    let c = ap (λ x. x.calls) e in
    let o = ap (λ x. x.offset) e in
    record { calls = omega (arith, h.calls); offset = omega (arith, h.offset) }

turned_counted : {s r : State} {input before after : List ℕ} (n : ℕ) → Counted n s → Turned s input before r after → Counted (suc n) r
turned_counted {s} {r} {input} n h t =
    let bs : List ℕ = left input s.at s.end ++ [] in
    let u = t.used [] (λ _. refl) in
    elim (ℕ_discrete r.at s.at) [
      | yes e ↦ record { calls = omega (arith, h.calls, t.not_counted e); offset = omega (arith, h.offset, t.offset) }
      | no e ↦ record { calls = omega (arith, h.calls, t.counted e); offset = omega (arith, h.offset, t.offset, call_most bs) }
    ]

-- a turn makes at most one call
pub counted_more : {s r : State} {input output input' output' : List ℕ} (n : ℕ) → Counted n s → Turn s input output r input' output' → Counted (suc n) r
counted_more n h (fetched _ _ _ f _) = let (e, g) = f.counted in record { calls = omega (arith, h.calls); offset = omega (arith, h.offset) }
counted_more n h (done _ _ e _ _) = paused_counted n h e
counted_more n h (written _ _ e _ _) = paused_counted n h e
counted_more n h (called t _) = turned_counted n h t

-- the offset of the byte behind a call
pub offset_room : {s : State} {bs before after : List ℕ} {taken p q : ℕ} → Counted 2199023255551 s → Printed bs taken before p after q
    → s.offset + taken < 18446744073709551616
offset_room {bs = bs} h e = omega (arith, h.offset, e.takes, call_most bs)
