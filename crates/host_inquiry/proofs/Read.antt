-- A C host sees only the number that dm_request_read or dm_reply_read answers. It is 0 exactly where the message was read, because every refusal's
-- number stands in the table, which begins at 1.
use mathlib.Core.Path.{◌≡◌, refl, ap, sym, ◌∙◌}
use mathlib.Core.List.{List}
use Prim.Native.Nat.{ℕ}
use Rattle.refusal.specs.Outcome.{Outcome, gives, refused}
use Rattle.refusal.proofs.Numbered.{number_told, given_where_0}
use Rattle.ids.specs.declared.device.DeviceId.{DeviceId}
use Rattle.inquiry.specs.declared.identity.Identity.{Identity}
use Rattle.inquiry.specs.Request.{read_request}
use Rattle.inquiry.specs.Reply.{read_reply}
use Rattle.inquiry.proofs.Numbered.{request_numbered, reply_numbered}
use Rattle.host_inquiry.specs.declared.RequestAnswer.{RequestAnswer}
use Rattle.host_inquiry.specs.declared.ReplyAnswer.{ReplyAnswer}
use Rattle.host_inquiry.specs.Identity.{request_answer, reply_answer}

request_number : (o : Outcome DeviceId) → (request_answer o).number ≡ number_told o
request_number (gives d) = refl
request_number (refused n vs) = refl

pub request_number_0_means_read : (bytes : List ℕ) (a : RequestAnswer) → a ≡ request_answer (read_request bytes)
    → (a.number ≡ 0 → (d : DeviceId) × (read_request bytes ≡ gives d)) × ((d : DeviceId) → read_request bytes ≡ gives d → a.number ≡ 0)
request_number_0_means_read bytes a told =
    let number : a.number ≡ number_told (read_request bytes) = ap (λ (x : RequestAnswer). x.number) told ∙ request_number (read_request bytes) in
    (λ z. given_where_0 (read_request bytes) (request_numbered bytes) (sym number ∙ z), λ d e. number ∙ ap number_told e)

reply_number : (o : Outcome Identity) → (reply_answer o).number ≡ number_told o
reply_number (gives x) = refl
reply_number (refused n vs) = refl

pub reply_number_0_means_read : (bytes : List ℕ) (a : ReplyAnswer) → a ≡ reply_answer (read_reply bytes)
    → (a.number ≡ 0 → (x : Identity) × (read_reply bytes ≡ gives x)) × ((x : Identity) → read_reply bytes ≡ gives x → a.number ≡ 0)
reply_number_0_means_read bytes a told =
    let number : a.number ≡ number_told (read_reply bytes) = ap (λ (x : ReplyAnswer). x.number) told ∙ reply_number (read_reply bytes) in
    (λ z. given_where_0 (read_reply bytes) (reply_numbered bytes) (sym number ∙ z), λ x e. number ∙ ap number_told e)
