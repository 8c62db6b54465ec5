-- `put_state` meets its contract: fourteen stores one after another fill the fourteen bytes.
use Rattle.stream.specs.State.{encoded}
use Rattle.stream.proofs.StateBytes.{stored_all, status_told}
use Rattle.stream.proofs.state.put_state.Goals as goal

pub returns : goal.returns
returns c =
    let a = c.args in
    let status = status_told a.d.status in
    rw (c.put_word.ensures, c.flag_of.ensures, c.flag_of-2.ensures, c.is_some.ensures, c.unwrap_or.ensures, status.0, status.1)
    (stored_all a.state.now (encoded a.d) c.told-state)
