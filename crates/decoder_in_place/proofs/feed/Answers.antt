-- `feed` meets its contract: a refused call leaves the state as it was.
use Rattle.std.proofs.Common.{rules}
use Rattle.decoder_in_place.proofs.Refused.{refused_in_place}
use Rattle.decoder_in_place.proofs.feed.Goals as goal

pub returns-in_err-fed : goal.returns-in_err-fed
returns-in_err-fed c =
    let told = refused_in_place _ c.feed.result c.in_err-fed.field-0.0 c.args.state.now c.args.store.now c.feed.new.store c.in_err-fed.was c.feed.ensures in
    search rules
