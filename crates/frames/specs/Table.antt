-- The frames of document 01: its row, its list of payloads and its table of run lengths, put together. No order of tests and no rule for
-- lengths stands here: a frame is described by what it consists of.
use Rattle.std.specs.Prelude.{◌≡◌, true, List, ◌++◌, ℕ, ◌+◌, length, None}
use Rattle.laws.specs.Choice.{flag}
use Rattle.ids.specs.Device.{device_byte, device_in_range}
use Rattle.command.specs.Command.{code_of}
use Rattle.framing.specs.Framing.{first_high}
use Rattle.message.specs.Prefix.{field_list, prefix_of, fields_at, all_fit}
use Rattle.frame_reader.specs.declared.Record.{Record}
use Rattle.frame_writer.specs.Writer.{row}
use Rattle.frames.specs.Lengths.{listed, lengths_of}

-- the bytes ahead of the run: those of the fields that the command has, in wire order
abbrev pub prefix_in : Record → List ℕ
prefix_in r = prefix_of r.command r.fields

-- a frame as the table describes it, with what it says and its run
pub record Described (bytes : List ℕ) (r : Record) (run : List ℕ) : Type 0 where
  -- "Row: F0 00 20 32 20, device, command, payload, F7", and the payload is fields, then run
  pub is : bytes ≡ row (device_byte r.device) (code_of r.command) (prefix_in r) run
  -- "Device byte: 00 to 0F a unit, 7F everyone"
  pub device : device_in_range r.device ≡ true
  -- each field that the command has is in its range: "Bank 0 to 7, program 0 to 127, pattern 0 to 31, protocol version 6 or 7", interface 0 to 2
  pub fits : all_fit (field_list r.command r.fields.has_pattern) (prefix_in r) 0 ≡ true
  -- "A field .. that the command lacks is 0": the fields are those that the prefix says, and no others
  pub own : r.fields ≡ fields_at r.command r.fields.has_pattern (prefix_in r)
  -- no body byte is "80 or above"
  pub low : first_high (prefix_in r ++ run) ≡ None
  -- "Accepted run lengths"; a pattern's number counts with its run, since its lengths are those "after v"
  pub long : listed (lengths_of r.command r.fields.version r.fields.has_pattern) (flag r.fields.has_pattern + length run) ≡ true
