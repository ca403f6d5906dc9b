use Rattle.std.proofs.Common.{sym, ap, ◌∙◌, arith}
use Rattle.sim_language.specs.Lines.{lines, words}
use Rattle.sim_language.specs.AnywhereInText.{declaration, declarations, heads_of}
use Rattle.sim_lines.proofs.HeadsOfLines.{heads_through}
use Rattle.sim_lines.proofs.NamesSoFar.{event_line, other_line}
use Rattle.sim_lines.proofs.whole_text.look_ahead.Goals as goal

pub loop-line-preserved-then-is_event : goal.loop-line-preserved-then-is_event
loop-line-preserved-then-is_event c =
    let version = c.args.version in
    let heads = c.loop-line.heads in
    let line = c.in-Some.line.now in
    let words_are = c.new-words.ensures ∙ ap words c.cut.ensures in
    let through =
    heads_through version heads c.add.new.self (heads_of version (lines c.args.text.now)) _ line (lines c.in-Some.behind.now)
    (lines c.loop-line.rest.now) c.in-Some.ensures.lines words_are c.in_ok-add.ensures c.loop-line.invariant.heads in
    let found = c.in-Some-declaration in
    let declared = found.ensures ∙ ap declaration words_are in
    let event = sym c.is_event.ensures ∙ c.if-is_event.true in
    let shorter = c.in-Some.ensures.shorter in
    record {
      heads = through.0;
      few_heads = omega (arith, through.1, shorter, c.loop-line.invariant.few_heads);
      names =
          event_line c.loop-line.names c.add-then-is_event.new.self c.loop-line.events (record { name = found.name.now; value = found.sort })
          line (lines c.in-Some.behind.now) (lines c.loop-line.rest.now) (declarations (lines c.args.text.now))
          c.in-Some.ensures.lines declared c.loop-line.invariant.names event c.in_ok-add-2.ensures.ok;
      few_events = omega (arith, shorter, c.loop-line.invariant.few_events);
    }

pub loop-line-preserved : goal.loop-line-preserved
loop-line-preserved c =
    let version = c.args.version in
    let heads = c.loop-line.heads in
    let line = c.in-Some.line.now in
    let words_are = c.new-words.ensures ∙ ap words c.cut.ensures in
    let through =
    heads_through version heads c.add.new.self (heads_of version (lines c.args.text.now)) _ line (lines c.in-Some.behind.now)
    (lines c.loop-line.rest.now) c.in-Some.ensures.lines words_are c.in_ok-add.ensures c.loop-line.invariant.heads in
    let found = c.in-Some-declaration in
    let declared = found.ensures ∙ ap declaration words_are in
    let other = sym c.is_event.ensures ∙ c.if-is_event.false in
    let shorter = c.in-Some.ensures.shorter in
    record {
      heads = through.0;
      few_heads = omega (arith, through.1, shorter, c.loop-line.invariant.few_heads);
      names =
          other_line c.loop-line.names c.add-else-is_event.new.self c.loop-line.events (record { name = found.name.now; value = found.sort })
          line (lines c.in-Some.behind.now) (lines c.loop-line.rest.now) (declarations (lines c.args.text.now))
          c.in-Some.ensures.lines declared c.loop-line.invariant.names other c.in_ok-add-3.ensures.ok;
      few_events = omega (arith, shorter, c.loop-line.invariant.few_events);
    }
