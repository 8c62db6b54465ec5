-- A call on its way, in the decoder's own terms.
use Rattle.std.specs.Prelude.{◌≡◌, true, List, ℕ, ◌+◌, ◌-◌, ◌≤◌, min, length, take, drop}
use Rattle.laws.specs.Choice.{pick}
use Rattle.laws.specs.Window.{window}
use Rattle.octets.specs.quick.Data.{data_run}
use Rattle.octets.specs.quick.Words.{put_word}
use Rattle.wire.specs.Status.{data_length}
use Rattle.decoder.specs.declared.Decoder.{Decoder}
use Rattle.decoder.specs.State.{limit, sound}
use Rattle.decoder.specs.Step.{step, stored}
use Rattle.decoder.specs.Call.{Walked, reports}
use Rattle.stream.specs.declared.FedAnswer.{FedAnswer}
use Rattle.stream.specs.State.{state_of, encoded}
use Rattle.stream.specs.Reports.{numbers_of}
use Rattle.stream.specs.quick.Bytes.{waiting_number, status_in, held_number, put_middle}

-- a walk in numbers: r is its answer, later are the bytes of its state, and left is its store
pub record Numbered (w : Walked) (r : FedAnswer) (later left : List ℕ) : Type 0 where
  pub told : r ≡ numbers_of w.fed.used w.fed.interrupted w.fed.report
  pub kept : later ≡ encoded w.fed.state
  pub store : left ≡ w.store

-- a byte that reports, in numbers, n bytes used with it
pub record Answers (d : Decoder) (store : List ℕ) (b n : ℕ) (r : FedAnswer) (later left : List ℕ) : Type 0 where
  pub some : reports (step d b) ≡ true
  pub told : r ≡ numbers_of n (step d b).interrupted (step d b).report
  pub kept : later ≡ encoded (step d b).state
  pub leaves : left ≡ stored d store b

-- the number is a status's with nothing pending, which takes so many data bytes
abbrev pub Under : ℕ → ℕ → Type 0
Under m n = (m ≡ held_number (status_in m)) × (data_length (status_in m) ≡ n)

-- a state's bytes whose first eight are 0: no frame is open
abbrev pub FrontFree : List ℕ → Type 0
FrontFree l = (length l ≡ 14) × (put_word 0 l 0 ≡ l)

-- a state's bytes in which no status stands and nothing is pending
abbrev pub MiddleFree : List ℕ → Type 0
MiddleFree l = (length l ≡ 14) × (put_middle 0 l ≡ l)

-- what a call begins with, read from the state's bytes l: an open frame's length or 0, and the numbers of what waits
pub record Ready (entry m a : ℕ) (l : List ℕ) : Type 0 where
  pub bytes : l ≡ encoded (state_of l)
  pub long : length l ≡ 14
  pub fine : sound (state_of l) ≡ true
  pub length_is : entry ≡ pick (state_of l).in_sysex (state_of l).len 0
  pub middle : m ≡ waiting_number (state_of l)
  pub first : a ≡ (state_of l).data0

-- so many data bytes behind the first `from` were moved to the store from `start` on, and at most `left` more may follow of the `most`
pub record MovedTo (start from most at used left : ℕ) (before after bytes : List ℕ) : Type 0 where
  pub count : ℕ
  pub place : at ≡ start + count
  pub next : used ≡ from + count
  pub rest : left + count ≡ most
  pub run : count ≤ data_run (drop from bytes)
  pub moved : after ≡ window before start (take count (drop from bytes))

-- the first n bytes of `from` are data bytes, and were copied to the front of a buffer
pub record Copied (n : ℕ) (from before after : List ℕ) : Type 0 where
  pub run : n ≤ data_run from
  pub moved : after ≡ window before 0 (take n from)

-- n data bytes behind the first `from` were moved to the store from `start` on, all of them as far as the frame has room
pub record RunMoved (start from n : ℕ) (before after bytes : List ℕ) : Type 0 where
  pub all : n ≡ min (limit - start) (data_run (drop from bytes))
  pub moved : after ≡ window before start (take n (drop from bytes))
