use Rattle.missing_walk.proofs.Seeing.{may_put}
use Rattle.missing_walk.proofs.view.keep.Goals as goal

pub returns-clause-cache : goal.returns-clause-cache
returns-clause-cache c =
    may_put c.put_hashed-kept.result c.args.cache.now c.put_hashed-kept.new.self c.args.h.now c.args.node.now.value
    c.generation-generation.result c.in-Ok.again c.in-Ok.ensures c.generation-generation.ensures
    c.put_hashed-kept.ensures.ok c.put_hashed-kept.ensures.err
