-- The search's name for what a backend answers.
use Rattle.node_backend.specs.declared.back.BackFault.{BackFault}
use Rattle.node_backend.specs.declared.back.BackFault.TheVariants as back
use Rattle.missing_walk.specs.declared.fault.SearchFault.{SearchFault}
use Rattle.missing_walk.specs.declared.fault.SearchFault.TheVariants as search

abbrev pub search_fault : BackFault → SearchFault
search_fault back.Fault = search.Fault
search_fault back.Memory = search.Memory
