-- What tells a request from a reply: how long the message is, and the bytes around its device.
use Rattle.std.specs.Prelude.{Bool, ◌&&◌, List, ℕ, eqb, length, get_or, take, drop}
use Rattle.framing.specs.Framing.{same_bytes}

-- so many bytes, 7E ahead of the device and these bytes behind it; the device is any byte
abbrev pub has_shape : ℕ → List ℕ → List ℕ → Bool
has_shape len shape bytes = eqb (length bytes) len && eqb (get_or bytes 1 0) 0x7E && same_bytes (take (length shape) (drop 3 bytes)) shape
