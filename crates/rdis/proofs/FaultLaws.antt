-- A chain with a cell twice can be made longer, so the cells of a longest chain are distinct, and at most as many as the stuck cells of their kind.
-- Assumes nothing.
use Prim.Native.Nat.{ℕ, zero, suc, ◌+◌, ◌-◌, ◌*◌, ◌≤◌, ◌<◌}
use mathlib.Core.Path.{◌≡◌, refl, sym, ap, subst, subst₃, ◌∙◌}
use mathlib.Core.Bool.{Bool, true, false, not, not-not}
use mathlib.Core.Logic.{◌⊎◌, inl, inr}
use native.Mathlib.Omega.{arith}
use Rattle.bits.proofs.TestLaws.{clash, and_left}
use Rattle.rdis.specs.Block.{Block, stuck, faulty, faulty_cells}
use Rattle.rdis.specs.Chains.{Cell, Way, turn, Step, Is, HasChain}
use Rattle.rdis.specs.Facts.{LevelsUsed}
use Rattle.rdis.specs.Theorems.{LevelsByKind, LevelsByFaults}
use Rattle.rdis.proofs.Walks.{twice, twice_is, turns_add, turns_twice, turns_less, turn_turn, colour, way, Walk, chain_walk, walk_chain, prefix, after}
use Rattle.rdis.proofs.Taking.{same}
use Rattle.rdis.proofs.LevelLaws.{levels_by_chain}
use Rattle.rdis.proofs.CounterLaws.{other_sense}
use Rattle.rdis.proofs.CountLaws.{cells_faults, two_kinds, distinct_cells}

-- the walk up to cell j, where cell i stands again, and then once more from cell i on
again : {P : Bool → Cell → Type 0} {w : Bool} {d : Way} {n : ℕ} (W : Walk P w d n) (i h j : ℕ) → j ≡ i + twice (suc h) → j ≤ n → W.cell i ≡ W.cell j
    → Walk P w d (n + twice (suc h))
unfolding prefix
again {P} {w} {d} {n} W i h j z l e =
    after (prefix j l W) (n + q) (λ m. W.cell (m - q))
    (λ m p k. subst (λ v. P v (W.cell (m - q))) (turns_less not not-not w (suc h) m (omega arith)) (W.is (m - q) (omega arith)))
    (let a : j - q ≡ i = omega arith in
    let b : suc i ≡ suc j - q = omega arith in
    subst₃ Step (sym (ap (way d) a) ∙ turns_less turn turn_turn d (suc h) j (omega arith)) e (ap W.cell b) (W.step i (omega arith)))
    (λ m p k. let a : suc (m - q) ≡ suc m - q = omega arith in subst₃ Step (turns_less turn turn_turn d (suc h) m (omega arith)) refl (ap W.cell a) (W.step (m - q) (omega arith)))
  where
    q : ℕ
    q = twice (suc h)

-- where the colour is the same again, the distance is even
even : (w : Bool) (q : ℕ) → colour w q ≡ w → (h : ℕ) × (q ≡ twice h)
even w zero e = (zero, refl)
even true (suc zero) e = clash e refl
even false (suc zero) e = clash refl e
even w (suc (suc q)) e = let (h, p) = even w q (sym (ap (λ v. colour v q) (not-not w)) ∙ e) in (suc h, ap (λ x. suc (suc x)) p)

is_stuck_lem : (b : Block) (v : Bool) (c : Cell) → Is b v c → stuck b c.row c.column ≡ true
unfolding faulty
is_stuck_lem b v c h = and_left _ _ h.2

-- a stuck cell has one colour
one_colour : (b : Block) (u v : Bool) (c : Cell) → Is b u c → Is b v c → u ≡ v
one_colour b u v c x y = go (same u v)
  where
    go : (u ≡ v) ⊎ (u ≡ not v) → u ≡ v
    go (inl p) = p
    go (inr p) = clash (subst (λ z. faulty b z c.row c.column ≡ true) p x.2) (other_sense b v c.row c.column (is_stuck_lem b v c y) ∙ ap not y.2)

-- a walk with a cell twice gives one with two steps more
longer : (b : Block) (d : Way) (n : ℕ) (W : Walk (Is b) true d n) (i j : ℕ) → i < j → j ≤ n → W.cell i ≡ W.cell j → Walk (Is b) true d (suc (suc n))
longer b d n W i j l k e = go (even (colour true i) (j - i) same_colour)
  where
    same_colour : colour (colour true i) (j - i) ≡ colour true i
    same_colour =
        let x : i + (j - i) ≡ j = omega arith in
        sym (turns_add not true i (j - i)) ∙ ap (colour true) x ∙ one_colour b (colour true j) (colour true i) (W.cell j) (W.is j k) (subst (Is b (colour true i)) e (W.is i (omega arith)))

    go : (h : ℕ) × (j - i ≡ twice h) → Walk (Is b) true d (suc (suc n))
    go (zero, p) = absurd (omega arith)
    go (suc h, p) = prefix (suc (suc n)) (omega arith) (again W i h j (omega arith) k e)

-- the cells at so many places of a walk, where there is no chain of two cells more, are as many cells of the block, if they are of one colour
distinct_places : (b : Block) (n : ℕ) (d : Way) → Walk (Is b) true d n → (HasChain b (suc (suc (suc n))) → ⊥) → (w : Bool) (N : ℕ) (p : ℕ → ℕ)
    → ((i : ℕ) → i < N → (p i ≤ n) × (colour true (p i) ≡ w)) → ((i j : ℕ) → i < j → p i < p j) → N ≤ faulty_cells b w
unfolding HasChain
distinct_places b n d W longest w N p places rising =
    distinct_cells b.rows b.columns N (λ i. W.cell (p i)) (faulty b w)
    (λ i l. let (k, e) = places i l in subst (λ v. Is b v (W.cell (p i))) e (W.is (p i) k))
    (λ i j l m e f. longest (walk_chain (Is b) (suc (suc n)) d (longer b d n W (p i) (p j) (rising i j l) (places j m).0 (λ t. record { row = e t; column = f t }))))

-- in a chain the wrong cells are at the even places, from 0 on, and the right ones between them
kinds_used : (b : Block) (k l : ℕ) → LevelsUsed b k l → (l ≤ faulty_cells b true) × (l ≤ faulty_cells b false + 1)
unfolding HasChain
kinds_used b k zero u = (omega arith, omega arith)
kinds_used b k (suc h) u =
    let x : 2 * suc h - 1 ≡ suc (twice h) = omega (arith, twice_is h) in
    let y : suc (suc (suc (twice h))) ≡ 2 * suc (suc h) - 1 = omega (arith, twice_is h) in
    let (cs, e, chain) = subst (HasChain b) x (u.reached (omega arith)) in
    let (d, W) = chain_walk (Is b) (twice h) cs e chain in
    let places = distinct_places b (twice h) d W (λ z. absurd (omega (arith, u.greatest (suc (suc h)) (omega arith) (subst (HasChain b) y z)))) in (
      places true (suc h) twice
          (λ i l. (omega (arith, twice_is i, twice_is h), turns_twice not not-not true i)) (λ i j l. omega (arith, twice_is i, twice_is j)),
      omega (
        arith,
        places false h (λ i. suc (twice i))
            (λ i l. (omega (arith, twice_is i, twice_is h), turns_twice not not-not false i)) (λ i j l. omega (arith, twice_is i, twice_is j)),
      ),
    )

pub levels_by_kind : LevelsByKind
levels_by_kind b k l r c e = kinds_used b k l (levels_by_chain b k l r c e)

pub levels_by_faults : LevelsByFaults
levels_by_faults b k l r c e =
    let (wrong, right) = levels_by_kind b k l r c e in
    omega (arith, two_kinds b, cells_faults b.rows b.columns b.mask)
