-- Frames that were read, as they cross to C: every field a plain number, the run by its place in the caller's bytes.
use Rattle.std.specs.Prelude.{List, ℕ, ◌≤◌, ◌<◌, length, get_or}
use Rattle.refusal.specs.Outcome.{Outcome, gives, refused}
use Rattle.ids.specs.declared.device.DeviceId.{DeviceId}
use Rattle.command.specs.declared.Command.{Command}
use Rattle.command.specs.Command.{code_of}
use Rattle.message.specs.declared.fields.Fields.{Fields}
use Rattle.frame_reader.specs.declared.Record.{Record}
use Rattle.frame_reader.specs.Reader.{run_in, place_in}
use Rattle.laws.specs.Choice.{flag}
use Rattle.host_answer.specs.Device.{everyone_of, unit_of}
use Rattle.host_frames.specs.declared.ReadAnswer.{ReadAnswer}

-- "a record of plain fields beside the caller's packed run": the record and the run's place
abbrev pub frame_numbers : DeviceId → Command → Fields → ℕ → ℕ → ReadAnswer
frame_numbers d k f start len =
    record {
      number = 0;
      detail0 = 0;
      detail1 = 0;
      detail2 = 0;
      detail3 = 0;
      everyone = everyone_of d;
      unit = unit_of d;
      command = code_of k;
      free = f.free;
      version = f.version;
      bank = f.bank;
      program = f.program;
      last = f.last;
      pattern = f.pattern;
      has_pattern = flag f.has_pattern;
      interface = f.interface;
      rx = f.rx;
      tx = f.tx;
      run_start = start;
      run_len = len;
    }

-- read: the numbers. Refused: document 01's number and details, and 0 behind them
abbrev pub read_answer : Outcome Record → List ℕ → ReadAnswer
read_answer (gives r) bytes = frame_numbers r.device r.command r.fields (place_in r) (length (run_in r bytes))
read_answer (refused n values) bytes =
    record {
      number = n;
      detail0 = get_or values 0 0;
      detail1 = get_or values 1 0;
      detail2 = get_or values 2 0;
      detail3 = get_or values 3 0;
      everyone = 0;
      unit = 0;
      command = 0;
      free = 0;
      version = 0;
      bank = 0;
      program = 0;
      last = 0;
      pattern = 0;
      has_pattern = 0;
      interface = 0;
      rx = 0;
      tx = 0;
      run_start = 0;
      run_len = 0;
    }

-- numbers that dm_frame_write can be handed as bytes: flags are 0 or 1, and every other number is below 80
pub record ToldBytes (a : ReadAnswer) : Type 0 where
  pub everyone : a.everyone ≤ 1
  pub unit : a.unit < 0x80
  pub command : a.command < 0x80
  pub free : a.free < 0x80
  pub version : a.version < 0x80
  pub bank : a.bank < 0x80
  pub program : a.program < 0x80
  pub last : a.last < 0x80
  pub pattern : a.pattern < 0x80
  pub flag_fits : a.has_pattern ≤ 1
  pub interface : a.interface < 0x80
  pub rx : a.rx < 0x80
  pub tx : a.tx < 0x80
