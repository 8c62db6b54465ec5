-- The reader accepts every frame that passes its tests one by one: none of them looks at more than its own part.
use mathlib.Core.Path.{◌≡◌, refl, ap, sym, ◌∙◌}
use mathlib.Core.Bool.{Bool, true, false, ◌&&◌, ◌||◌, not}
use mathlib.Core.List.{List, [], ◌∷◌}
use Prim.Native.Nat.{ℕ, ◌+◌, ◌-◌, ◌%◌, ◌≤◌}
use native.Mathlib.Omega.{arith}
use lib.Dec.{eqb, leb}
use lib.ListN.{length, get_or, take, drop}
use borrow.Author.Tests.{le-leb, eq-eqb, leb-true}
use Rattle.laws.specs.Choice.{pick}
use Rattle.laws.proofs.Tests.{both}
use Rattle.refusal.specs.Outcome.{Outcome, gives, unless}
use Rattle.command.specs.declared.Command.{Command}
use Rattle.command.specs.Command.{code_of}
use Rattle.command.specs.Payload as y
use Rattle.command.specs.Payload.{payload_of, raw_length_for, carries_run}
use Rattle.command.proofs.Table.{of_every}
use Rattle.packed.specs.Packed.{packed_length}
use Rattle.framing.specs.Framing.{same_bytes}
use Rattle.message.specs.declared.fields.Fields.{Fields}
use Rattle.message.specs.Prefix.{optional, field_list, fields_at, field_fits, all_fit}
use Rattle.frame_reader.specs.declared.Record.{Record}
use Rattle.frame_reader.specs.Payload.{accepted, numbered_by, prefix_length, early, is_any, when_run, read_fields, read_short, read_run, read_dump, read_payload}
use Rattle.frame_reader.specs.Reader.{payload, maker, read_record}
use Rattle.message.proofs.prefix.ByKind.{version_comes_first}
use Rattle.frame_reader.proofs.Accepted.{TestedPayload, Tested, run_fits, fit_given, no_option}

-- a dump's first byte is its version
version_fits : (c : Command) (b : Bool) (p : List ℕ) → carries_run c ≡ true → all_fit (field_list c b) p 0 ≡ true → field_fits y.version (get_or p 0 0) ≡ true
version_fits c b p h f = (both (field_fits y.version (get_or p 0 0)) (all_fit (drop 1 (field_list c b)) p 1) (rw (version_comes_first c b h) at f)).0

-- what must be there before the version is looked at belongs to the prefix
early_there : (c : Command) → carries_run c ≡ true → early c ≤ prefix_length c
early_there c h = leb-true (early c) (prefix_length c) (rw h at (of_every (λ j. leb (pick (carries_run j) (early j) 0) (prefix_length j)) refl c))

run_passes : (c : Command) (p : List ℕ) (next : Outcome Fields) → run_fits c p ≡ true → when_run c (get_or p 0 0) p next ≡ next
run_passes c p next h = go (is_any (payload_of c).run) h
  where
    any_ok : Bool
    any_ok = not (eqb ((length p - prefix_length c) % 8) 1)

    len_ok : Bool
    len_ok = accepted (raw_length_for c (get_or p 0 0)) (length p - prefix_length c) || (optional c && numbered_by (length p))

    go : (t : Bool) → pick t any_ok len_ok ≡ true
        → pick t (unless any_ok 13 ((length p - prefix_length c) ∷ []) next)
        (unless len_ok 7 (code_of c ∷ (prefix_length c + packed_length (raw_length_for c (get_or p 0 0))) ∷ length p ∷ []) next) ≡ next
    go true g = rw g
    go false g = rw g

payload_accepted : (c : Command) (p : List ℕ) (f : Fields) → TestedPayload c p f → read_payload c p ≡ gives f
unfolding read_run
payload_accepted c p f d = go (carries_run c) refl
  where
    fields : read_fields c (numbered_by (length p)) p ≡ gives f
    fields = fit_given (field_list c (numbered_by (length p))) p 0 (gives (fields_at c (numbered_by (length p)) p)) d.fits ∙ ap (λ (g : Fields). gives g) (sym d.says)

    go : (t : Bool) → carries_run c ≡ t → pick t (read_dump c p) (read_short c p) ≡ gives f
    go true h =
        rw (
          le-leb (early c) (length p) (omega (arith, early_there c h, d.long)),
          version_fits c (numbered_by (length p)) p h d.fits,
          le-leb
              (prefix_length c) (length p) d.long,
          run_passes c p (read_fields c (numbered_by (length p)) p) (d.run h),
        )
        fields
    go false h =
        let same : read_fields c (numbered_by (length p)) p ≡ read_fields c false p = rw (no_option c h) in
        rw (eq-eqb (length p) (prefix_length c) (d.exact h)) (sym same ∙ fields)

-- the whole reader
pub accepted_if_tested : (bytes : List ℕ) (r : Record) → Tested bytes r → read_record bytes ≡ gives r
unfolding read_record
accepted_if_tested bytes r d =
    let ours : same_bytes (take 4 (drop 1 bytes)) maker ≡ true = ap (λ (l : List ℕ). same_bytes l maker) d.ours in
    rw (d.ends, d.low, le-leb 8 (length bytes) d.long, ours, d.device, d.command, payload_accepted r.command (payload bytes) r.fields d.says)
