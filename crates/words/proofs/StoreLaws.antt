-- Laws of the bytes of a word that are stored. Assumes nothing.
use Prim.Native.Nat.{ℕ, ◌+◌, ◌*◌, ◌/◌, ◌%◌, ◌^◌, ◌≤◌, ◌<◌}
use mathlib.Core.Path.{◌≡◌, refl, ap, subst, ◌∙◌}
use mathlib.Core.Bool.{Bool}
use mathlib.Core.List.{List}
use mathlib.Core.Logic.{⊎_elim}
use native.Mathlib.Nat.{mod-lt}
use native.Mathlib.Omega.{arith}
use lib.ListN.{length, get_or, set}
use lib.Pow.{pow_pos}
use lib.Seq.{get_or-set_same, get_or-set_other}
use Rattle.bits.specs.Bits.{has, word, words, bytes}
use Rattle.bits.proofs.TestLaws.{lt_or_le}
use Rattle.bits.proofs.BoundLaws.{list_get_or}
use Rattle.bits.proofs.BitLaws.{has_low, has_shr, has_word, is_word}
use Rattle.words.specs.Stored.{Filled, Stores}

-- ---- bytes that are made of bits

pub bits_of : (v : ℕ) (f : ℕ → Bool) → v ≡ word 64 f → (i : ℕ) → i < 64 → has v i ≡ f i
bits_of v f e i l = ap (λ y. has y i) e ∙ has_word 64 f i l

-- past the last byte there is nothing to fill
pub filled_past : (q r : ℕ) (f : ℕ → Bool) (bs : List ℕ) → length bs ≤ q → Filled q f bs → Filled r f bs
filled_past q r f bs h k t _ l = k t (omega arith) l

pub filled_none : (f : ℕ → Bool) (bs : List ℕ) → Filled 0 f bs
filled_none f bs t h l = absurd (omega arith)

pub filled_all : (q n : ℕ) (f : ℕ → Bool) (bs : List ℕ) → length bs ≡ n → n ≤ q → Filled q f bs → bs ≡ bytes n f
unfolding bytes words
filled_all q n f bs e h k = list_get_or n (λ i. word 8 (λ k. f (8 * i + k))) 0 bs e (λ i l. k i (omega arith) (omega arith))

-- ---- bytes that are stored

pub byte_stored : (q v : ℕ) (bs : List ℕ) → q < length bs → Stores q 1 v bs (set bs q (v % 256))
byte_stored q v bs h = record { fills = fills; keeps = λ t l. other t (λ z. absurd (omega arith)) }
  where
    other : (t : ℕ) → (t ≡ q → ⊥) → get_or (set bs q (v % 256)) t 0 ≡ get_or bs t 0
    other t z = get_or-set_other bs q t (v % 256) 0 z

    fills : (f : ℕ → Bool) → Filled q f bs → ((i : ℕ) → i < 8 * 1 → has v i ≡ f (8 * q + i)) → Filled (q + 1) f (set bs q (v % 256))
    fills f k e t u w =
        ⊎_elim (λ r. other t (λ z. absurd (omega arith)) ∙ k t r (omega arith))
        (λ r. let here : q ≡ t = omega arith in
        let byte : v % 2 ^ 8 ≡ word 8 (λ j. f (8 * q + j)) =
        is_word 8 (v % 2 ^ 8) (λ j. f (8 * q + j)) (mod-lt _ (pow_pos 8)) (λ j l. has_low 8 v j l ∙ e j l) in
        subst (λ y. get_or (set bs q (v % 256)) y 0 ≡ word 8 (λ j. f (8 * y + j))) here (get_or-set_same bs q (v % 256) 0 h ∙ byte)) (lt_or_le t q)

-- b bytes stored after others, of which they may overlap some: where they do, both store the same
pub both_stored : (q a s b v : ℕ) (before middle after : List ℕ) → s ≤ a → a ≤ s + b → Stores q a v before middle
    → Stores (q + s) b (v / 2 ^ (8 * s)) middle after → Stores q (s + b) v before after
both_stored q a s b v before middle after h k one two = record {
  fills = λ f start e.
      let most = one.fills f start (λ i l. e i (omega arith)) in
      let rest : (i : ℕ) → i < 8 * b → has (v / 2 ^ (8 * s)) i ≡ f (8 * (q + s) + i) =
      λ i l. let there : 8 * q + (8 * s + i) ≡ 8 * (q + s) + i = omega arith in has_shr v (8 * s) i ∙ e (8 * s + i) (omega arith) ∙ ap f there in
      λ t l. two.fills f (λ t l. most t (omega arith)) rest t (omega arith);
  keeps = λ t l. two.keeps t (omega arith) ∙ one.keeps t (omega arith);
}

-- n bytes, and the n that follow
pub pair_stored : (n q v : ℕ) (before middle after : List ℕ) → Stores q n v before middle → Stores (q + n) n (v / 2 ^ (8 * n)) middle after
    → Stores q (n + n) v before after
pair_stored n q v before middle after = both_stored q n n n v before middle after (omega arith) (omega arith)

-- where all bytes are filled, more cannot be stored
pub stored_past : (q n m v : ℕ) (before after : List ℕ) → n ≤ m → length after ≤ q + n → Stores q n v before after → Stores q m v before after
stored_past q n m v before after h l s = record {
  fills = λ f k e. filled_past (q + n) (q + m) f after l (s.fills f k (λ i j. e i (omega arith)));
  keeps = λ t k. s.keeps t (omega arith);
}

pub nothing_stored : (q v : ℕ) (bs : List ℕ) → Stores q 0 v bs bs
nothing_stored q v bs = record { fills = λ f k e t l. k t (omega arith); keeps = λ t l. refl }
