use Rattle.std.proofs.Common.{[]}
use Rattle.cow_map.proofs.shared.Planting.{empty_stands}
use Rattle.cow_map.proofs.map.CowMap.new.Goals as goal

pub returns-clause-stands : goal.returns-clause-stands
returns-clause-stands c half stored = empty_stands half stored c.args.kind c.new.result 64 []
