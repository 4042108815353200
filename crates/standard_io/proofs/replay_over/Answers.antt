use Rattle.standard_io.proofs.Laws.{ends_after}
use Rattle.standard_io.proofs.KnownBytes.{replayed_over, replayed_whole}
use Rattle.standard_io.proofs.replay_over.Goals as goal

pub returns : goal.returns
returns g c =
    let over =
    replayed_over _ _ _ _ _ _ c.read_all-read.result c.read_all-read.ensures.ended c.read_all-read.ensures.carried c.last_turn-t.result c.last_turn-t.ensures.last
    c.last_turn-t.ensures.wrote c.executive.result c.executive.ensures in record {
      after = ends_after _ _ c.read_all-read.ensures.ended _ c.last_turn-t.ensures.last _ c.executive.ensures;
      over = over;
      whole = λ i. replayed_whole _ _ _ _ _ _ _ over i;
    }
