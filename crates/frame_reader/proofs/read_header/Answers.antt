-- `read_header` meets its contract: length, maker and model, device, command and payload, each by its own test.
use Rattle.frame_reader.proofs.Parts.{payload_part}
use borrow.Author.Tests.{le-leb}
use mathlib.Core.Path.{sym, ◌∙◌}
use Rattle.std.proofs.Common.{rules}
use Rattle.frame_reader.proofs.read_header.Goals as goal

pub returns-in_err-fields : goal.returns-in_err-fields
returns-in_err-fields c =
    rw (
      le-leb 8 _ c.if-len-lt8.false,
      sym c.same_bytes.ensures ∙ c.if-not-same_bytes.false,
      ← c.from_byte.ensures,
      c.in_ok-device.was,
      ← c.from_byte-2.ensures,
      c.in_ok-command.was,
      ← payload_part
          c.args.bytes.now,
      ← c.read_payload.ensures,
      c.in_err-fields.was,
    ) (search rules)
