-- The rule on marks, cache and searches, as the store grows or the generation turns. For proofs of other crates.
use Rattle.std.proofs.Common.{◌≡◌, ℕ, ◌+◌, ◌≤◌, true, is_some, List, [], ◌∷◌, Option, None}
use Rattle.std.proofs.Common.{Some, IfSome}
use Rattle.std.proofs.Common.{refl, sym, ap, ◌∙◌, subst, arith, Contains}
use Rattle.std.specs.Prelude.{reverse}
use Rattle.std.specs.Option.{option_and_then}
use Rattle.lru.proofs.Splits.{Contains-nil}
use Rattle.ledger_spec.specs.Bytes.{Bytes, Hash, Half, Lookup}
use Rattle.ledger_spec.specs.Forms.{header_of}
use Rattle.ledger_spec.specs.Header.{header_bytes}
use Rattle.ledger_spec.specs.Spots.{header_in}
use Rattle.ledger_spec.proofs.shared.ReachLaws.{Grows}
use Rattle.ledger_header.specs.declared.Header.{Header}
use Rattle.ledger_header.specs.Fields.{fields}
use Rattle.shamap_node.specs.Nodes.{held}
use Rattle.full_below.specs.declared.marks.Marks.{Marks}
use Rattle.tree_cache.specs.declared.cache.TreeCache.{TreeCache}
use Rattle.missing_walk.specs.declared.todo.Open.{Open}
use Rattle.missing_walk.specs.declared.search.Search.{Search}
use Rattle.missing_walk.specs.Sees.{IsHeaderOf}
use Rattle.missing_walk.specs.Pending.{Pending, placed, Around}
use Rattle.missing_walk.specs.Searching.{Kept, Rule}
use Rattle.missing_walk.proofs.Meetings.{covers_grows}
use Rattle.missing_walk.proofs.shared.Places.{full_grows, held_grows, open_grows, found_grows}
use Rattle.missing_walk.proofs.Frames.{within_grows}

module _ (half : Half) (m n : Lookup) (up : Grows m n) where
  stays : (bytes : Bytes) (t : Hash) (o : Option Bytes) → m t ≡ o → Some bytes ≡ option_and_then header_of o → Some bytes ≡ header_in n t
  stays bytes t None is e = cc
  stays bytes t (Some form) is e = e ∙ ap (option_and_then header_of) (sym (up t form is))

  head_grows : (t : Hash) (o : Option Header) → is_some o ≡ true → IsHeaderOf m t o → IsHeaderOf n t o
  head_grows t None there h = cc
  head_grows t (Some head) there h = record { bytes = stays (header_bytes (fields head)) t (m t) refl h.bytes; reads = h.reads }

  around_grows : (os : List Open) (ps : List Pending) → Around half m os ps → Around half n os ps
  around_grows [] ps a = tt
  around_grows (o ∷ os) ps a =
      (a.0, open_grows half m n o up a.1, found_grows half m n (placed o.at None) _ up a.2, within_grows half m n up os _ a.3)

  kept_grows : (s : Search) → is_some s.header ≡ true → Kept half m s → Kept half n s
  kept_grows s there k = record {
    head = head_grows s.target s.header there k.head;
    covers = covers_grows half m n up s.target _ k.covers;
    around = around_grows (reverse s.opened.items) _ k.around;
    few = k.few;
  }

  pub rule_grows : (s : Search) (c : TreeCache) (marks : Marks) → Rule half m s c marks → Rule half n s c marks
  rule_grows s c marks rule = record {
    marks = λ e there. full_grows half m n e.0 up (rule.marks e there);
    cache = λ e there. held_grows half m n e.0 (held (e.1).value) up (rule.cache e there);
    past = rule.past;
    unbroken = rule.unbroken;
    search = λ generation there. kept_grows s there (rule.search generation there);
  }

later : (a b c : ℕ) → a ≤ b → c ≡ b + 1 → a ≤ c
later a b c le is = omega (arith, le, is)

earlier : (a b c : ℕ) → a ≤ b → c ≡ b + 1 → a ≡ c → ⊥
earlier a b c le is same = omega (arith, le, is, same)

some_is : (a b : ℕ) → Some a ≡ Some b → a ≡ b
some_is a b e = cc

past_later : (o : Option ℕ) (b c : ℕ) → IfSome o (λ a. a ≤ b) → c ≡ b + 1 → IfSome o (λ a. a ≤ c)
past_later None b c le is = tt
past_later (Some a) b c le is = later a b c le is

not_now : {A : Type 0} (o : Option ℕ) (b c : ℕ) → IfSome o (λ a. a ≤ b) → c ≡ b + 1 → o ≡ Some c → A
not_now None b c le is e = cc
not_now (Some a) b c le is e = absurd (earlier a b c le is (some_is a c e))

pub rule_turns : (half : Half) (m n : Lookup) (s : Search) (c c' : TreeCache) (marks marks' : Marks) → Rule half m s c marks
    → c'.entries.entries ≡ [] → marks'.entries.entries ≡ [] → marks'.generation ≡ marks.generation + 1 → Rule half n s c' marks'
rule_turns half m n s c c' marks marks' rule none none_marked turned = record {
  marks = λ e there. absurd (Contains-nil e (subst (λ l. Contains l e) none_marked there));
  cache = λ e there. absurd (Contains-nil e (subst (λ l. Contains l e) none there));
  past = past_later s.generation marks.generation marks'.generation rule.past turned;
  unbroken = rule.unbroken;
  search = λ generation there. not_now s.generation marks.generation marks'.generation rule.past turned generation;
}
