-- A transfer by a script, a byte a step: which calls it makes, with which bytes, and what each answers. Assumes nothing.
use Rattle.std.specs.Prelude.{◌≡◌, List, [], ◌∷◌, ◌++◌, ℕ, suc, ◌+◌, ◌≤◌, ◌<◌, length, get_or, take, drop}
use Rattle.grid_promises.specs.declared.ReadAnswer.{ReadAnswer}
use Rattle.fragment_promises.specs.declared.Transfer.{Transfer}
use Rattle.fragment_promises.specs.Promises.{Start, Lump, Finishes}

-- the next b of the bytes that were not used, or all of them where they are fewer
abbrev pub next : List ℕ → ℕ → ℕ → List ℕ
next bytes used b = take b (drop used bytes)

-- one step by the byte b: from a record, the number of bytes used and an output, to a number, a record, the number of bytes then used, and an output
pub data Stepped (m n k : ℕ) (bytes : List ℕ) (b : ℕ) : Transfer → ℕ → List ℕ → ℕ → Transfer → ℕ → List ℕ → Type 0 where
  -- up to 253: a lump of b bytes
  lump : {used x : ℕ} {t u : Transfer} {out : List ℕ} → b ≤ 253 → Lump t (next bytes used b) x u
      → Stepped m n k bytes b t used out x u (used + length (next bytes used b)) out
  -- 254: a new start with the same numbers. No byte is given back
  start : {used x : ℕ} {t u : Transfer} {out : List ℕ} → b ≡ 254 → Start m n k x u → Stepped m n k bytes b t used out x u used out
  -- 255: a finish
  finish : {used : ℕ} {t : Transfer} {out after : List ℕ} {a : ReadAnswer} → b ≡ 255 → Finishes t out a after → length after ≡ length out
      → Stepped m n k bytes b t used out a.number t used after

-- a start and the first i steps of the script: the record, how many bytes are used, the output, and all the numbers so far
pub data After (m n k : ℕ) (bytes script out : List ℕ) : ℕ → Transfer → ℕ → List ℕ → List ℕ → Type 0 where
  started : {x : ℕ} {u : Transfer} → Start m n k x u → After m n k bytes script out 0 u 0 out (x ∷ [])
  stepped : {i used used' x : ℕ} {t u : Transfer} {now after numbers : List ℕ} → After m n k bytes script out i t used now numbers → i < length script
      → Stepped m n k bytes (get_or script i 0) t used now x u used' after → After m n k bytes script out (suc i) u used' after (numbers ++ (x ∷ []))

-- the whole script, and one more finish: its answer, the output after it, and the numbers of all steps before it
pub record Scripted (m n k : ℕ) (bytes script out : List ℕ) (answer : ReadAnswer) (after numbers : List ℕ) : Type 0 where
  pub last : Transfer
  pub used : ℕ
  pub before : List ℕ
  pub steps : After m n k bytes script out (length script) last used before numbers
  pub ends : Finishes last before answer after
  pub long : length after ≡ length before
