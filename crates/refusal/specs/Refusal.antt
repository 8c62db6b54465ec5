-- Document 01's refusal table: for each case its number, and the values that the third column gives, in the table's order.
use Rattle.std.specs.Prelude.{List, [], ◌∷◌, ℕ}
use Rattle.refusal.specs.declared.Refusal.{Refusal}
use Rattle.refusal.specs.declared.Refusal.TheVariants as r

-- the column "number"
abbrev pub number_of : Refusal → ℕ
number_of r.Unframed = 1
number_of (r.NotSevenBit b) = 2
number_of (r.ShortFrame n) = 3
number_of (r.Foreign a b c m) = 4
number_of (r.InvalidDeviceId b) = 5
number_of (r.UnknownCommand b) = 6
number_of (r.PayloadLength k e f) = 7
number_of (r.UnsupportedProtocolVersion b) = 8
number_of (r.BankOutOfRange b) = 9
number_of (r.ProgramOutOfRange b) = 10
number_of (r.PatternOutOfRange b) = 11
number_of (r.InvalidInterface b) = 12
number_of (r.PackedRunLength n) = 13
number_of (r.BufferTooSmall n a) = 14
number_of r.NotAnInquiryRequest = 15
number_of r.NotAnInquiryResponse = 16
number_of (r.ChannelOutOfRange b) = 17
number_of r.SysExInterrupted = 18
number_of (r.SysExTooLong n) = 19
number_of r.BadStore = 20
number_of (r.ValueTooLarge v) = 21
number_of r.LengthOverflow = 22

-- the column "given for": the values that go with the number. 15, 16, 18, 20 and 22 have none, and neither has 1
abbrev pub values_of : Refusal → List ℕ
values_of r.Unframed = []
values_of (r.NotSevenBit b) = b ∷ []
values_of (r.ShortFrame n) = n ∷ []
values_of (r.Foreign a b c m) = a ∷ b ∷ c ∷ m ∷ []
values_of (r.InvalidDeviceId b) = b ∷ []
values_of (r.UnknownCommand b) = b ∷ []
values_of (r.PayloadLength k e f) = k ∷ e ∷ f ∷ []
values_of (r.UnsupportedProtocolVersion b) = b ∷ []
values_of (r.BankOutOfRange b) = b ∷ []
values_of (r.ProgramOutOfRange b) = b ∷ []
values_of (r.PatternOutOfRange b) = b ∷ []
values_of (r.InvalidInterface b) = b ∷ []
values_of (r.PackedRunLength n) = n ∷ []
values_of (r.BufferTooSmall n a) = n ∷ a ∷ []
values_of r.NotAnInquiryRequest = []
values_of r.NotAnInquiryResponse = []
values_of (r.ChannelOutOfRange b) = b ∷ []
values_of r.SysExInterrupted = []
values_of (r.SysExTooLong n) = n ∷ []
values_of r.BadStore = []
values_of (r.ValueTooLarge v) = v ∷ []
values_of r.LengthOverflow = []
