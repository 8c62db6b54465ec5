-- The interface byte of document 01: "interface (0, 1, 2)".
use Rattle.std.specs.Prelude.{[], ◌∷◌, ℕ, ltb, eqb}
use Rattle.laws.specs.Choice.{pick}
use Rattle.refusal.specs.Outcome.{Outcome, gives, unless}
use Rattle.ids.specs.declared.interface.Interface.{Interface}
use Rattle.ids.specs.declared.interface.Interface.TheVariants as i

-- MIDI, USB, Wi-Fi
abbrev pub interface_at : ℕ → Interface
interface_at b = pick (eqb b 0) i.Midi (pick (eqb b 1) i.Usb i.WiFi)

-- 12 with the byte
abbrev pub interface_of : ℕ → Outcome Interface
interface_of b = unless (ltb b 3) 12 (b ∷ []) (gives (interface_at b))

-- the byte of an interface
abbrev pub interface_byte : Interface → ℕ
interface_byte i.Midi = 0
interface_byte i.Usb = 1
interface_byte i.WiFi = 2
