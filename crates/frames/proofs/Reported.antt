-- A frame that the reader accepts is reported by a fresh decoder as those bytes, where it is no longer than the limit, because it is
-- F0, bytes below 80 and F7.
use Rattle.std.specs.Prelude.{None, Some}
use mathlib.Core.Path.{◌≡◌, refl, ◌∙◌, ap, subst}
use mathlib.Core.Bool.{Bool, true, false, ◌&&◌}
use mathlib.Core.List.{List, [], ◌∷◌}
use Prim.Native.Nat.{ℕ, ◌≤◌}
use native.Mathlib.Omega.{arith}
use lib.Dec.{ltb}
use lib.ListN.{length}
use borrow.Author.Tests.{le-leb}
use Rattle.laws.specs.Choice.{pick}
use Rattle.refusal.specs.Outcome.{gives}
use Rattle.framing.specs.Framing.{body, first_high}
use Rattle.framing.proofs.Bytes.{framed_is}
use Rattle.frame_reader.specs.declared.Record.{Record}
use Rattle.frame_reader.specs.Reader.{read_record}
use Rattle.frame_reader.proofs.Accepted.{tested}
use Rattle.decoder.specs.State.{limit, fresh}
use Rattle.damage.specs.Sent.{Frame, bytes_of, seven_bit, tagged, intacts}
use Rattle.damage.specs.Calls.{singly}
use Rattle.damage.proofs.WritersRead.{read_alone}

-- no high byte: seven bits each
pub low_is_seven_bit : (bs : List ℕ) → first_high bs ≡ None → seven_bit bs ≡ true
low_is_seven_bit [] h = refl
low_is_seven_bit (b ∷ bs) h = go (ltb b 0x80) refl h (low_is_seven_bit bs)
  where
    go : (t : Bool) → ltb b 0x80 ≡ t → pick t (first_high bs) (Some b) ≡ None → (first_high bs ≡ None → seven_bit bs ≡ true)
        → (ltb b 0x80 && seven_bit bs) ≡ true
    go true e g rest = rw e (rest g)
    go false e g rest = let z : ◌≡◌ {A = ℕ} 0 1 = cc in absurd (omega arith)

pub accepted_is_reported : (bytes : List ℕ) (r : Record) → read_record bytes ≡ gives r → length bytes ≤ limit → (store : List ℕ) → limit ≤ length store
    → (bytes ≡ bytes_of (Frame (body bytes))) × (singly fresh store bytes ≡ intacts (tagged (Frame (body bytes))))
accepted_is_reported bytes r h short store room =
    let d = tested bytes r h in
    let shape : bytes ≡ bytes_of (Frame (body bytes)) = framed_is bytes d.ends in
    let fits : length (bytes_of (Frame (body bytes))) ≤ limit = subst (λ (l : List ℕ). length l ≤ limit) shape short in (
      shape,
      ap (singly fresh store) shape
          ∙ read_alone (Frame (body bytes)) (rw (low_is_seven_bit (body bytes) d.low, le-leb (length (bytes_of (Frame (body bytes)))) limit fits)) store room,
    )
