use Prim.Native.Nat.{◌+◌, ◌-◌}
use mathlib.Core.Path.{◌≡◌, subst}
use native.Mathlib.Omega.{arith}
use Rattle.words.specs.Stored.{Stores}
use Rattle.words.proofs.StoreLaws.{both_stored}
use Rattle.words.proofs.stores.put_few.Goals as goal

pub returns-then-n-ge4 : goal.returns-then-n-ge4
returns-then-n-ge4 c =
    let a = c.args in
    let all : a.n - 4 + 4 ≡ a.n = omega arith in
    subst (λ n. Stores a.q n a.v a.out.now c.put-then-n-ge4.new.out) all
    (both_stored a.q 4 (a.n - 4) 4 a.v a.out.now c.put.new.out c.put-then-n-ge4.new.out (omega (arith, c.requires.1)) (omega arith) c.put.ensures c.put-then-n-ge4.ensures)

pub returns-then-n-ge2 : goal.returns-then-n-ge2
returns-then-n-ge2 c =
    let a = c.args in
    let all : a.n - 2 + 2 ≡ a.n = omega (arith, c.if-n-ge2.true) in
    subst (λ n. Stores a.q n a.v a.out.now c.put-then-n-ge2-2.new.out) all
    (both_stored a.q 2 (a.n - 2) 2 a.v a.out.now c.put-then-n-ge2.new.out c.put-then-n-ge2-2.new.out (omega (arith, c.if-n-ge4.false)) (omega arith) c.put-then-n-ge2.ensures c.put-then-n-ge2-2.ensures)

pub returns : goal.returns
returns c =
    let a = c.args in
    let one : 1 ≡ a.n = omega (arith, c.requires, c.if-n-ge2.false) in
    subst (λ n. Stores a.q n a.v a.out.now c.put-2.new.out) one c.put-2.ensures
