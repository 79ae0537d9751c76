use Rattle.cow_build.proofs.Joined.{builds_more}
use Rattle.cow_build.proofs.threads.build_parts.Goals as goal

-- the lists at the front of the rest were built in their order, and their maps stand behind those built before
pub loop-alloc-preserved : goal.loop-alloc-preserved
loop-alloc-preserved g c =
    builds_more c.args.kind c.args.parts.items c.loop-alloc.rest.items c.split_off.new.self.items c.in_ok-behind.behind.items
    c.loop-alloc.maps.items
    c.in_ok-built.built.items c.append.new.self.items c.min-n.result c.in_ok-behind.ensures.items c.in_ok-behind.ensures.tail
    c.in_ok-built.ensures.kinds c.in_ok-built.ensures.stands c.in_ok-append.ensures.items c.loop-alloc.invariant
