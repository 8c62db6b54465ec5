-- What dm_request_read tells, handed number by number to dm_request_write, is the same bytes: the two numbers name the device that was read, and a
-- request is its device between fixed bytes.
use mathlib.Core.Path.{◌≡◌, ap, subst, sym, ◌∙◌}
use mathlib.Core.Bool.{Bool, true}
use mathlib.Core.List.{List, ◌++◌}
use Prim.Native.Nat.{ℕ, ◌≤◌}
use lib.Dec.{leb}
use lib.ListN.{length, drop}
use borrow.Author.Tests.{le-leb}
use Rattle.refusal.specs.Outcome.{Outcome, gives}
use Rattle.ids.specs.declared.device.DeviceId.{DeviceId}
use Rattle.inquiry.specs.Request.{read_request, request_bytes, request_write}
use Rattle.inquiry.proofs.RoundTrip.{request_same_bytes}
use Rattle.host_answer.specs.declared.Answer.{Answer}
use Rattle.host_answer.specs.Answer.{answer_of, Sends, SendsIf}
use Rattle.host_answer.specs.Device.{device_from, everyone_of}
use Rattle.host_answer.proofs.Devices.{device_named_again, everyone_is_a_flag}
use Rattle.host_inquiry.specs.declared.RequestAnswer.{RequestAnswer}
use Rattle.host_inquiry.specs.Identity.{request_answer, RequestSent}
use Rattle.host_inquiry.proofs.Read.{request_number_0_means_read}

-- what dm_request_write is asked to write where it is handed what was told
abbrev request_again : RequestAnswer → ℕ → Outcome (List ℕ)
request_again a room = request_write (device_from a.everyone a.unit) room

module _ (bytes : List ℕ) (d : DeviceId) (e : read_request bytes ≡ gives d) where
  flag_names : leb (request_answer (read_request bytes)).everyone 1 ≡ true
  flag_names = ap (λ (o : Outcome DeviceId). leb (request_answer o).everyone 1) e ∙ le-leb (everyone_of d) 1 (everyone_is_a_flag d)

  told_is_written : (room : ℕ) → length bytes ≤ room → request_again (request_answer (read_request bytes)) room ≡ gives bytes
  told_is_written room fits =
      let same = request_same_bytes bytes d e in
      let enough : length (request_bytes d) ≤ room = subst (λ (l : List ℕ). length l ≤ room) same.0 fits in
      ap (λ (o : Outcome DeviceId). request_again (request_answer o) room) e
      ∙ ap (λ (x : DeviceId). request_write x room) (device_named_again d)
      ∙ rw (same.1, le-leb (length (request_bytes d)) room enough) (ap (λ (l : List ℕ). gives l) (sym same.0))

-- the entry points by their contracts. Where dm_request_read told a of a request that it read, and dm_request_write is handed a's numbers and a
-- buffer as long as the request or longer, the request's bytes stand in the buffer again, and just these were written
pub request_told_and_sent_again : (bytes : List ℕ) (d : DeviceId) → read_request bytes ≡ gives d
    → (a : RequestAnswer) → a ≡ request_answer (read_request bytes)
    → (before afterwards : List ℕ) (answer : Answer) → length bytes ≤ length before
    → RequestSent a.everyone a.unit answer before afterwards
    → (answer ≡ answer_of (gives (length bytes))) × (afterwards ≡ bytes ++ drop (length bytes) before)
request_told_and_sent_again bytes d e a told before afterwards answer room sent =
    let flags : leb a.everyone 1 ≡ true = ap (λ (x : RequestAnswer). leb x.everyone 1) told ∙ flag_names bytes d e in
    let same : request_again a (length before) ≡ gives bytes = ap (λ (x : RequestAnswer). request_again x (length before)) told ∙ told_is_written bytes d e (length before) room in
    let named : SendsIf true (request_again a (length before)) answer before afterwards =
    subst (λ (t : Bool). SendsIf t (request_again a (length before)) answer before afterwards) flags sent in
    let done : Sends (gives bytes) answer before afterwards = subst (λ (o : Outcome (List ℕ)). Sends o answer before afterwards) same named in
    (done.answers, done.leaves)

-- the same for a C host, which sees only the number: where it is 0 the request was read
pub request_told_with_0_and_sent_again : (bytes : List ℕ)
    → (a : RequestAnswer) → a ≡ request_answer (read_request bytes) → a.number ≡ 0
    → (before afterwards : List ℕ) (answer : Answer) → length bytes ≤ length before
    → RequestSent a.everyone a.unit answer before afterwards
    → (answer ≡ answer_of (gives (length bytes))) × (afterwards ≡ bytes ++ drop (length bytes) before)
request_told_with_0_and_sent_again bytes a told zero before afterwards answer room sent =
    let read = (request_number_0_means_read bytes a told).0 zero in
    request_told_and_sent_again bytes read.0 read.1 a told before afterwards answer room sent
