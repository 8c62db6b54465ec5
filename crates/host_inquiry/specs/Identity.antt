-- The inquiry's messages as they cross to C: what a request or a reply tells, in plain numbers.
use Rattle.std.specs.Prelude.{List, ℕ, leb, length, get_or}
use Rattle.refusal.specs.Outcome.{Outcome, gives, refused}
use Rattle.ids.specs.declared.device.DeviceId.{DeviceId}
use Rattle.host_answer.specs.declared.Answer.{Answer}
use Rattle.host_answer.specs.Answer.{SendsIf}
use Rattle.host_answer.specs.Device.{everyone_of, unit_of, device_from}
use Rattle.inquiry.specs.Request.{request_write}
use Rattle.inquiry.specs.declared.identity.Identity.{Identity}
use Rattle.host_inquiry.specs.declared.RequestAnswer.{RequestAnswer}
use Rattle.host_inquiry.specs.declared.ReplyAnswer.{ReplyAnswer}

-- read: the device. Refused: document 01's number and its detail, and 0 behind them
abbrev pub request_answer : Outcome DeviceId → RequestAnswer
request_answer (gives d) = record { number = 0; detail0 = 0; everyone = everyone_of d; unit = unit_of d }
request_answer (refused n values) = record { number = n; detail0 = get_or values 0 0; everyone = 0; unit = 0 }

-- read: the device and the versions
abbrev pub reply_answer : Outcome Identity → ReplyAnswer
reply_answer (gives x) =
    record {
      number = 0;
      detail0 = 0;
      everyone = everyone_of x.device;
      unit = unit_of x.device;
      major = x.firmware.major;
      minor = x.firmware.minor;
      voice_major = x.voice.major;
      voice_minor = x.voice.minor;
    }
reply_answer (refused n values) =
    record { number = n; detail0 = get_or values 0 0; everyone = 0; unit = 0; major = 0; minor = 0; voice_major = 0; voice_minor = 0 }

-- the identity of plain numbers
abbrev pub identity_from : ℕ → ℕ → ℕ → ℕ → ℕ → ℕ → Identity
identity_from everyone unit major minor voiceMajor voiceMinor =
    record { device = device_from everyone unit; firmware = record { major = major; minor = minor }; voice = record { major = voiceMajor; minor = voiceMinor } }

-- the whole of what dm_request_write does with its numbers and the lent buffer: no record names its flag, or it is the writer of requests
abbrev pub RequestSent : ℕ → ℕ → Answer → List ℕ → List ℕ → Type 0
RequestSent everyone unit answer before afterwards =
    SendsIf (leb everyone 1) (request_write (device_from everyone unit) (length before)) answer before afterwards
