-- A step of a transfer on its way. Assumes nothing.
use Rattle.std.specs.Prelude.{◌≡◌, List, ℕ}
use Rattle.calls.specs.declared.script.Sending.{Sending}
use Rattle.calls.specs.Scripts.{Stepped}

-- its bytes and its numbers stay
pub record Steps (s : Sending) (byte : ℕ) (out : List ℕ) (number : ℕ) (t : Sending) (after : List ℕ) : Type 0 where
  pub numbers : t.numbers ≡ s.numbers
  pub bytes : t.bytes ≡ s.bytes
  pub stepped : Stepped s.numbers.rows s.numbers.columns s.numbers.k s.bytes.now byte s.transfer s.used out number t.transfer t.used after
