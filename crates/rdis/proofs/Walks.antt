-- Chains as functions: cell m of a walk of n steps. From lists to walks and back, and longer walks. Assumes nothing.
use Prim.Native.Nat.{ℕ, zero, suc, ◌+◌, ◌*◌, ◌-◌, ◌≤◌, ◌<◌}
use mathlib.Core.Path.{◌≡◌, refl, sym, ap, subst, ◌∙◌}
use mathlib.Core.Bool.{Bool, true, not}
use mathlib.Core.List.{List, [], ◌∷◌}
use mathlib.Core.Logic.{inl, inr}
use native.Mathlib.Nat.{zero-add, suc-add}
use native.Mathlib.Omega.{arith}
use native.Mathlib.Decide.{dec_le}
use lib.ListN.{length, get_or}
use Rattle.rdis.specs.Chains.{Cell, Way, by_row, by_column, turn, Step, Rest, Chain}

-- ---- what alternates

abbrev pub twice : ℕ → ℕ
twice zero = zero
twice (suc k) = suc (suc (twice k))

pub twice_is : (k : ℕ) → twice k ≡ 2 * k
twice_is zero = refl
twice_is (suc k) = omega (arith, twice_is k)

-- x, changed by f m times
abbrev pub turns : {A : Type 0} → (A → A) → A → ℕ → A
turns f x zero = x
turns f x (suc m) = turns f (f x) m

module _ {A : Type 0} (f : A → A) where
  pub turns_once : (x : A) (m : ℕ) → turns f (f x) m ≡ f (turns f x m)
  turns_once x zero = refl
  turns_once x (suc m) = turns_once (f x) m

  pub turns_add : (x : A) (a m : ℕ) → turns f x (a + m) ≡ turns f (turns f x a) m
  turns_add x zero m = rw zero-add
  turns_add x (suc a) m = rw suc-add (turns_add (f x) a m)

  module _ (back : (x : A) → f (f x) ≡ x) where
    pub turns_twice : (x : A) (k : ℕ) → turns f x (twice k) ≡ x
    turns_twice x zero = refl
    turns_twice x (suc k) = turns_twice (f (f x)) k ∙ back x

    pub turns_less : (x : A) (k m : ℕ) → twice k ≤ m → turns f x (m - twice k) ≡ turns f x m
    turns_less x k m h =
        let e : twice k + (m - twice k) ≡ m = omega arith in
        sym (turns_add x (twice k) (m - twice k) ∙ ap (λ y. turns f y (m - twice k)) (turns_twice x k)) ∙ ap (turns f x) e

pub turn_turn : (d : Way) → turn (turn d) ≡ d
turn_turn by_row = refl
turn_turn by_column = refl

-- the colour of cell m, and the way of step m
abbrev pub colour : Bool → ℕ → Bool
colour w m = turns not w m

abbrev pub way : Way → ℕ → Way
way d m = turns turn d m

pub record Walk (P : Bool → Cell → Type 0) (w : Bool) (d : Way) (n : ℕ) : Type 0 where
  pub cell : ℕ → Cell
  pub is : (m : ℕ) → m ≤ n → P (colour w m) (cell m)
  pub step : (m : ℕ) → m < n → Step (way d m) (cell m) (cell (suc m))

-- ---- walks and lists

-- the cell m places after the first
abbrev place : List Cell → ℕ → Cell
place cs m = get_or cs m (record { row = 0; column = 0 })

module _ (P : Bool → Cell → Type 0) where
  rest_is : (w : Bool) (d : Way) (c : Cell) (cs : List Cell) → P w c → Rest P w d c cs → (m : ℕ) → m < length (c ∷ cs) → P (colour w m) (place (c ∷ cs) m)
  rest_is w d c cs h r zero l = h
  rest_is w d c [] h r (suc m) l = absurd (omega arith)
  rest_is w d c (e ∷ es) h r (suc m) l = rest_is (not w) (turn d) e es r.1 r.2 m (omega arith)

  rest_step : (w : Bool) (d : Way) (c : Cell) (cs : List Cell) → Rest P w d c cs → (m : ℕ) → suc m < length (c ∷ cs) → Step (way d m) (place (c ∷ cs) m) (place (c ∷ cs) (suc m))
  rest_step w d c [] r m l = absurd (omega arith)
  rest_step w d c (e ∷ es) r zero l = r.0
  rest_step w d c (e ∷ es) r (suc m) l = rest_step (not w) (turn d) e es r.2 m (omega arith)

  rest_walk : (n : ℕ) (w : Bool) (d : Way) (c : Cell) (cs : List Cell) → length (c ∷ cs) ≡ suc n → P w c → Rest P w d c cs → Walk P w d n
  rest_walk n w d c cs e h r = record { cell = place (c ∷ cs); is = λ m l. rest_is w d c cs h r m (omega arith); step = λ m l. rest_step w d c cs r m (omega arith) }

  pub chain_walk : (n : ℕ) (cs : List Cell) → length cs ≡ suc n → Chain P cs → (d : Way) × Walk P true d n
  chain_walk n [] e h = absurd h
  chain_walk n (c ∷ cs) e (h, inl r) = (by_row, rest_walk n true by_row c cs e h r)
  chain_walk n (c ∷ cs) e (h, inr r) = (by_column, rest_walk n true by_column c cs e h r)

  walk_rest : (n : ℕ) (w : Bool) (d : Way) (f : ℕ → Cell) → ((m : ℕ) → m ≤ n → P (colour w m) (f m)) → ((m : ℕ) → m < n → Step (way d m) (f m) (f (suc m)))
      → (cs : List Cell) × (length cs ≡ n) × Rest P w d (f zero) cs
  walk_rest zero w d f h s = ([], refl, tt)
  walk_rest (suc n) w d f h s =
      let (cs, e, r) = walk_rest n (not w) (turn d) (λ m. f (suc m)) (λ m l. h (suc m) (omega arith)) (λ m l. s (suc m) (omega arith)) in
      (f 1 ∷ cs, ap suc e, (s zero (omega arith), h 1 (omega arith), r))

  pub walk_chain : (n : ℕ) (d : Way) → Walk P true d n → (cs : List Cell) × (length cs ≡ suc n) × Chain P cs
  walk_chain n by_row W = let (cs, e, r) = walk_rest n true by_row W.cell W.is W.step in (W.cell zero ∷ cs, ap suc e, (W.is zero (omega arith), inl r))
  walk_chain n by_column W = let (cs, e, r) = walk_rest n true by_column W.cell W.is W.step in (W.cell zero ∷ cs, ap suc e, (W.is zero (omega arith), inr r))

-- ---- other walks from a walk

unfoldable pub map_walk : {P Q : Bool → Cell → Type 0} {w : Bool} {d : Way} {n : ℕ} → ((v : Bool) (c : Cell) → P v c → Q v c) → Walk P w d n → Walk Q w d n
map_walk {w = w} f W = record { cell = W.cell; is = λ m l. f (colour w m) (W.cell m) (W.is m l); step = W.step }

unfoldable pub prefix : {P : Bool → Cell → Type 0} {w : Bool} {d : Way} {n : ℕ} (k : ℕ) → k ≤ n → Walk P w d n → Walk P w d k
prefix k h W = record { cell = W.cell; is = λ m l. W.is m (omega arith); step = λ m l. W.step m (omega arith) }

pub single : {P : Bool → Cell → Type 0} {w : Bool} {d : Way} (c : Cell) → P w c → Walk P w d zero
single {P} {w} c h = record { cell = λ _. c; is = first; step = λ m l. absurd (omega arith) }
  where
    first : (m : ℕ) → m ≤ 0 → P (colour w m) c
    first zero l = h
    first (suc m) l = absurd (omega arith)

abbrev cons : Cell → (ℕ → Cell) → ℕ → Cell
cons c f zero = c
cons c f (suc m) = f m

-- one cell before the first
unfoldable pub before : {P : Bool → Cell → Type 0} {w : Bool} {d : Way} {n : ℕ} (c : Cell) (W : Walk P (not w) (turn d) n) → P w c → Step d c (W.cell zero) → Walk P w d (suc n)
before {P} {w} {d} {n} c W h s = record { cell = cons c W.cell; is = is'; step = step' }
  where
    is' : (m : ℕ) → m ≤ suc n → P (colour w m) (cons c W.cell m)
    is' zero l = h
    is' (suc m) l = W.is m (omega arith)

    step' : (m : ℕ) → m < suc n → Step (way d m) (cons c W.cell m) (cons c W.cell (suc m))
    step' zero l = s
    step' (suc m) l = W.step m (omega arith)

-- the walk up to its last cell n, and then the cells g of suc n up to N
pub after : {P : Bool → Cell → Type 0} {w : Bool} {d : Way} {n : ℕ} (W : Walk P w d n) (N : ℕ) (g : ℕ → Cell) → ((m : ℕ) → n < m → m ≤ N → P (colour w m) (g m))
    → Step (way d n) (W.cell n) (g (suc n)) → ((m : ℕ) → n < m → m < N → Step (way d m) (g m) (g (suc m))) → Walk P w d N
after {P} {w} {d} {n} W N g h s t = record { cell = λ m. pick m (dec_le m n); is = λ m l. is' m l (dec_le m n); step = λ m l. step' m l (dec_le m n) (dec_le (suc m) n) }
  where
    pick : (m : ℕ) → Dec (m ≤ n) → Cell
    pick m (yes _) = W.cell m
    pick m (no _) = g m

    is' : (m : ℕ) → m ≤ N → (x : Dec (m ≤ n)) → P (colour w m) (pick m x)
    is' m l (yes p) = W.is m p
    is' m l (no p) = h m (omega arith) l

    step' : (m : ℕ) → m < N → (x : Dec (m ≤ n)) (y : Dec (suc m ≤ n)) → Step (way d m) (pick m x) (pick (suc m) y)
    step' m l (yes p) (yes q) = W.step m q
    step' m l (yes p) (no q) = let e : n ≡ m = omega arith in subst (λ x. Step (way d x) (W.cell x) (g (suc x))) e s
    step' m l (no p) (yes q) = absurd (omega arith)
    step' m l (no p) (no q) = t m (omega arith) l
