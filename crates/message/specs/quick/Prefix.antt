-- How the code keeps a prefix, and in which order it tests fields.
use Rattle.std.specs.Prelude.{◌≡◌, List, ◌++◌, ℕ, ◌-◌, length, replicate}
use Rattle.refusal.specs.Outcome.{Outcome, gives}
use Rattle.command.specs.Payload as y
use Rattle.message.specs.declared.fields.Fields.{Fields}
use Rattle.message.specs.Prefix.{field_ok}

-- a prefix as the code keeps it: its length, and five bytes that begin with it and end with zeros
pub record Padded (bytes : List ℕ) (len : ℕ) (kept : List ℕ) : Type 0 where
  pub long : len ≡ length bytes
  pub is : kept ≡ bytes ++ replicate (5 - length bytes) 0

-- the tests of fields whose lacking ones are 0, the version tested before
abbrev pub small_checked : Fields → Outcome Fields
small_checked f =
    field_ok y.interface f.interface
    (field_ok y.bank f.bank
    (field_ok y.program f.program
    (field_ok y.program f.last
    (field_ok y.pattern f.pattern (gives f)))))
