-- How the stack of a search changes.
use Rattle.std.specs.Prelude.{◌≡◌, ℕ, ◌==◌, Bool, false, List, [], ◌∷◌, ◌++◌, length}
use Rattle.shamap_node.specs.declared.Node.{Node}
use Rattle.missing_walk.specs.declared.todo.Todo.{Todo}
use Rattle.missing_walk.specs.declared.todo.Open.{Open}
use Rattle.missing_walk.specs.Pending.{Pending, stacked, kids_of}

-- these places were put on top
pub record Pushes (old new : List Todo) (ks : List Pending) : Type 0 where
  pub more : List Todo
  pub new_is : new ≡ old ++ more
  pub places : stacked more ≡ ks

-- some places were put on top
pub record Extends (old new : List Todo) : Type 0 where
  pub more : List Todo
  pub new_is : new ≡ old ++ more

-- the places below the node stand in place of the top one, and the node is the last that was gone below
pub record Opens (rest : List Todo) (top : Todo) (node : Node) (new : List Todo) (open_before open_after : List Open) : Type 0 where
  pub one : Open
  pub at_is : one.at ≡ top.at
  pub height_is : one.height ≡ length rest
  pub node_is : one.node.value ≡ node
  pub open_is : open_after ≡ open_before ++ one ∷ []
  pub places : stacked new ≡ kids_of top.at.kind top.at.id node ++ stacked rest

-- the first one has this height
abbrev pub is_topped : List Open → ℕ → Bool
is_topped [] height = false
is_topped (o ∷ os) height = o.height == height
