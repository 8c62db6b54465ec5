-- `dm_reset` meets its contract: the bytes of the state that they said, reset.
use Rattle.std.proofs.Common.{arith}
use lib.ListN.{drop_of_length-le}
use borrow.Author.Tests.{eq-eqb}
use Rattle.host_stream.proofs.dm_reset.Goals as goal

pub returns : goal.returns
returns c =
    let state = c.args.state.now in
    let bytes = c.in-Some.ensures.cases in
    rw (eq-eqb _ 14 bytes.long)
    (record {
      answers = c.from-2.ensures;
      leaves = rw (c.put_state.ensures, c.reset.ensures, c.state_of.ensures, bytes.same, drop_of_length-le state {i = 14} (omega (arith, bytes.long)));
    })
