-- A refusal is known by its number and its values, because it can be made again from them.
-- So a contract that fixes these two fixes the whole answer.
use mathlib.Core.Path.{◌≡◌, refl, sym, ◌∙◌, ap₂}
use mathlib.Core.List.{List}
use Prim.Native.Nat.{ℕ}
use lib.Dec.{eqb}
use lib.ListN.{get_or}
use Rattle.laws.specs.Choice.{pick}
use Rattle.refusal.specs.declared.Refusal.{Refusal}
use Rattle.refusal.specs.declared.Refusal.TheVariants as r
use Rattle.refusal.specs.Refusal.{number_of, values_of}

-- the refusal with this number and these values; a number that the table lacks is read as 22
made : ℕ → List ℕ → Refusal
made n vs =
    pick (eqb n 1) r.Unframed
    (pick (eqb n 2) (r.NotSevenBit (get_or vs 0 0))
    (pick (eqb n 3) (r.ShortFrame (get_or vs 0 0))
    (pick (eqb n 4) (r.Foreign (get_or vs 0 0) (get_or vs 1 0) (get_or vs 2 0) (get_or vs 3 0))
    (pick (eqb n 5) (r.InvalidDeviceId (get_or vs 0 0))
    (pick (eqb n 6) (r.UnknownCommand (get_or vs 0 0))
    (pick (eqb n 7) (r.PayloadLength (get_or vs 0 0) (get_or vs 1 0) (get_or vs 2 0))
    (pick (eqb n 8) (r.UnsupportedProtocolVersion (get_or vs 0 0))
    (pick (eqb n 9) (r.BankOutOfRange (get_or vs 0 0))
    (pick (eqb n 10) (r.ProgramOutOfRange (get_or vs 0 0))
    (pick (eqb n 11) (r.PatternOutOfRange (get_or vs 0 0))
    (pick (eqb n 12) (r.InvalidInterface (get_or vs 0 0))
    (pick (eqb n 13) (r.PackedRunLength (get_or vs 0 0))
    (pick (eqb n 14) (r.BufferTooSmall (get_or vs 0 0) (get_or vs 1 0))
    (pick (eqb n 15) r.NotAnInquiryRequest
    (pick (eqb n 16) r.NotAnInquiryResponse
    (pick (eqb n 17) (r.ChannelOutOfRange (get_or vs 0 0))
    (pick (eqb n 18) r.SysExInterrupted
    (pick (eqb n 19) (r.SysExTooLong (get_or vs 0 0))
    (pick (eqb n 20) r.BadStore
    (pick (eqb n 21) (r.ValueTooLarge (get_or vs 0 0)) r.LengthOverflow))))))))))))))))))))

made_again : (e : Refusal) → made (number_of e) (values_of e) ≡ e
unfolding made
made_again r.Unframed = refl
made_again (r.NotSevenBit b) = refl
made_again (r.ShortFrame n) = refl
made_again (r.Foreign a b c m) = refl
made_again (r.InvalidDeviceId b) = refl
made_again (r.UnknownCommand b) = refl
made_again (r.PayloadLength k e f) = refl
made_again (r.UnsupportedProtocolVersion b) = refl
made_again (r.BankOutOfRange b) = refl
made_again (r.ProgramOutOfRange b) = refl
made_again (r.PatternOutOfRange b) = refl
made_again (r.InvalidInterface b) = refl
made_again (r.PackedRunLength n) = refl
made_again (r.BufferTooSmall n a) = refl
made_again r.NotAnInquiryRequest = refl
made_again r.NotAnInquiryResponse = refl
made_again (r.ChannelOutOfRange b) = refl
made_again r.SysExInterrupted = refl
made_again (r.SysExTooLong n) = refl
made_again r.BadStore = refl
made_again (r.ValueTooLarge v) = refl
made_again r.LengthOverflow = refl

pub known_by_number_and_values : (d e : Refusal) → number_of d ≡ number_of e → values_of d ≡ values_of e → d ≡ e
known_by_number_and_values d e n v = sym (made_again d) ∙ ap₂ made n v ∙ made_again e
