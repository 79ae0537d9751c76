use Rattle.std.proofs.Common.{◌≡◌, ◌+◌, ◌<◌, ◌≤◌, ℕ, List, length, subst, arith}
use Rattle.std.proofs.lemmas.Bool.Decides.{nat_tests}
use Rattle.script_form.specs.Records.{earlier_in}
use Rattle.script_form.specs.Causes.{most_bytes, most_pages, LineHas, IsFirstOf}
use Rattle.script_form.specs.Judging.{IsFineLine, IsSaid, pages_with}
use Rattle.script_form.proofs.Scripts.{reads_start, reads_skip, reads_record, reads_line, reads_end}
use Rattle.script_form.proofs.Scripts.{refused_text, refused_size, refused_named}
use Rattle.script_form.proofs.script.read_lines.Goals as goal
use Rattle.script_form.proofs.script.read_lines.Goals.{in-Nothing, in-Record+in_ok-push-in-Record}
use Rattle.script_form.proofs.script.read_lines.Goals.{in-Line+in_ok-push-in-Line+in_ok-push-in-Line-2}

-- nothing is read yet
pub loop-rest-init : goal.loop-rest-init
loop-rest-init g c =
    rw (c.new-records.ensures, c.new-lines.ensures.items, c.new-earlier.ensures.items) (reads_start g.H.NodeHash.half c.args.bytes.now)

-- all is read
pub returns-clause-script : goal.returns-clause-script
returns-clause-script g c =
    let now = c.loop-rest in
    let none : length now.rest.now ≡ 0 = grind (arith, nat_tests, c.is_empty.ensures, c.loop-rest-test.ensures, c.loop-rest-test.false) in
    rw c.into_records.ensures
    (reads_end g.H.NodeHash.half c.args.bytes.now now.records now.lines.items now.earlier.items now.n now.rest.now now.pages now.invariant
    none)

-- the line is fine behind those before it, and what it says is nothing, or is added as a record or a command line
pub loop-rest-preserved : goal.loop-rest-preserved
loop-rest-preserved g c =
    let now = c.loop-rest in
    let first = c.first_line-size.ensures in
    let text = c.first_line-size.result.0.now in
    let size = c.first_line-size.result.1 in
    let half = g.H.NodeHash.half in
    let small : length c.args.bytes.now ≤ most_bytes + 1 = c.requires in
    let fine = subst (λ (e : List ℕ). IsFineLine half (earlier_in e now.records) text) c.deref.ensures.value c.in-Ok.ensures.fine in
    let said = subst (λ (e : List ℕ). IsSaid half e now.n text c.in-Ok.content) c.deref.ensures.value c.in-Ok.ensures.said in
    let few : pages_with now.pages c.in-Ok.content ≤ most_pages =
    subst (λ m. m ≤ most_pages) c.pages_with-named.ensures c.if-named-gt-MOST_PAGES.false in
    elim c.match-content-5.branch [
      | in-Nothing w ↦
          rw (w.records-is, w.lines-is, w.earlier-is, c.split_at.ensures.back, c.pages_with-named.ensures, w.in-Nothing.is)
          (reads_skip half c.args.bytes.now now.records now.lines.items now.earlier.items now.n now.rest.now now.pages now.invariant text
          size
          first.text first.cut first.some first.within c.if-bytes-rest-gt-MOST_BYTES.false fine (rw w.in-Nothing.is at said))
      | in-Record+in_ok-push-in-Record w ↦
          let says = rw w.in-Record.is at said in
          rw (w.records-is, w.lines-is, w.earlier-is, w.in_ok-push-in-Record.ensures.ok, c.split_at.ensures.back)
          (rw (c.pages_with-named.ensures, w.in-Record.is)
          (reads_record half c.args.bytes.now now.records now.lines.items now.earlier.items now.n now.rest.now now.pages now.invariant
          text size
          first.text first.cut first.some first.within w.in-Record.record c.if-bytes-rest-gt-MOST_BYTES.false fine says.0 says.1 says.2))
      | in-Line+in_ok-push-in-Line+in_ok-push-in-Line-2 w ↦
          let says = rw w.in-Line.is at said in
          rw (w.records-is, w.lines-is, w.earlier-is, c.pages_with-named.ensures, w.in-Line.is)
          (rw (w.in_ok-push-in-Line.ensures.items, w.in_ok-push-in-Line-2.ensures.items, c.split_at.ensures.back)
          (reads_line half c.args.bytes.now now.records now.lines.items now.earlier.items now.n now.rest.now now.pages now.invariant text
          size
          first.text first.cut first.some first.within w.in-Line.line small c.if-bytes-rest-gt-MOST_BYTES.false fine says.0 says.1
          (rw w.in-Line.is at few)))
    ]

-- the lines before it are fine, and with this one the script is too long, which is the first of all causes
pub returns-then-bytes-rest-gt-MOST_BYTES-clause-refused : goal.returns-then-bytes-rest-gt-MOST_BYTES-clause-refused
returns-then-bytes-rest-gt-MOST_BYTES-clause-refused g c =
    let now = c.loop-rest in
    let first = c.first_line-size.ensures in
    rw c.refused.ensures
    (refused_size g.H.NodeHash.half c.args.bytes.now now.records now.lines.items now.earlier.items now.n now.rest.now now.pages
    now.invariant
    c.first_line-size.result.0.now c.first_line-size.result.1 first.text first.cut first.some first.within
    c.if-bytes-rest-gt-MOST_BYTES.true)

-- the lines before it are fine, and it keeps within the script's limit, so the first cause of its text is the line's
pub returns-in-Err-Cause-clause-refused : goal.returns-in-Err-Cause-clause-refused
returns-in-Err-Cause-clause-refused g c =
    let now = c.loop-rest in
    let first = c.first_line-size.ensures in
    let text = c.first_line-size.result.0.now in
    let why = rw c.in-Err-Cause.field-0-is at c.in-Err-Cause.ensures.cause in
    let F : List ℕ → Type 0 = λ e. IsFirstOf (LineHas g.H.NodeHash.half (earlier_in e now.records) text) c.in-Err-Cause.cause in
    rw (c.refused-in-Err-Cause.ensures, c.in-Err-Cause.field-0-is)
    (refused_text g.H.NodeHash.half c.args.bytes.now now.records now.lines.items now.earlier.items now.n now.rest.now now.pages
    now.invariant
    text c.first_line-size.result.1 first.text first.cut first.some first.within c.in-Err-Cause.cause c.if-bytes-rest-gt-MOST_BYTES.false
    (subst F c.deref.ensures.value why))

-- the line says one page too many
pub returns-then-named-gt-MOST_PAGES-clause-refused : goal.returns-then-named-gt-MOST_PAGES-clause-refused
returns-then-named-gt-MOST_PAGES-clause-refused g c =
    let now = c.loop-rest in
    let first = c.first_line-size.ensures in
    let text = c.first_line-size.result.0.now in
    let half = g.H.NodeHash.half in
    let fine = subst (λ (e : List ℕ). IsFineLine half (earlier_in e now.records) text) c.deref.ensures.value c.in-Ok.ensures.fine in
    let said = subst (λ (e : List ℕ). IsSaid half e now.n text c.in-Ok.content) c.deref.ensures.value c.in-Ok.ensures.said in
    let many : most_pages < pages_with now.pages c.in-Ok.content =
    subst (λ m. most_pages < m) c.pages_with-named.ensures c.if-named-gt-MOST_PAGES.true in
    rw c.refused-then-named-gt-MOST_PAGES.ensures
    (refused_named half c.args.bytes.now now.records now.lines.items now.earlier.items now.n now.rest.now now.pages now.invariant text
    c.first_line-size.result.1 first.text first.cut first.some first.within c.in-Ok.content c.if-bytes-rest-gt-MOST_BYTES.false fine said
    many)
