-- The steps of a script, by their bytes. Assumes nothing.
use Rattle.std.specs.Prelude.{◌≡◌, ℕ, ◌≤◌}
use Rattle.calls.specs.declared.script.Step.{Step}
use Rattle.calls.specs.declared.script.Step.TheVariants.{Start, Finish, Lump}

-- the step of a byte
abbrev pub IsStep : ℕ → Step → Type 0
IsStep byte Start = byte ≡ 254
IsStep byte Finish = byte ≡ 255
IsStep byte (Lump size) = (byte ≡ size) × (size ≤ 253)
