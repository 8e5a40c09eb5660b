-- `reply` meets its contract: each way out is one case of the reply. Assumes nothing.
use Prim.Native.Nat.{◌-◌}
use native.Mathlib.Omega.{arith}
use mathlib.Core.Path.{◌≡◌, refl, ap, ◌∙◌}
use Rattle.quote_lines.specs.declared.Reply.TheVariants.{Between}
use Rattle.quote_lines.specs.Lines.{line_at, lines_of}
use Rattle.quote_lines.proofs.LineLaws.{lines-length, line_read}
use Rattle.quote_lines.proofs.ReplyLaws.{Found, found-line, reply-no-scenario, reply-past, reply-listed, month-until, reply-before, month-since, reply-between}
use Rattle.quote_lines.proofs.Lines.reply.Goals as goal

pub returns-then-scenario : goal.returns-then-scenario
returns-then-scenario c = reply-no-scenario _ _ _ c.if-scenario.true

pub returns-in_default : goal.returns-in_default
returns-in_default c =
    reply-past _ _ _ _ refl c.if-scenario.false (omega (arith, c.in_default.ensures, lines-length c.args.self.now.months.now c.args.self.now.prices.now))

pub returns-then-from-month : goal.returns-then-from-month
returns-then-from-month c =
    let found : Found (lines_of c.args.self.now.months.now c.args.self.now.prices.now) c.args.month c.args.scenario c.in-Some.i c.line-line.result =
    found-line _ _ _ _ _ _ c.in-Some.ensures c.if-scenario.false c.line-line.ensures in
    reply-listed _ _ _ _ _ found (omega (arith, c.if-from-month.true, c.from.ensures))

pub returns-then-i-eq0 : goal.returns-then-i-eq0
returns-then-i-eq0 c =
    let found : Found (lines_of c.args.self.now.months.now c.args.self.now.prices.now) c.args.month c.args.scenario c.in-Some.i c.line-line.result =
    found-line _ _ _ _ _ _ c.in-Some.ensures c.if-scenario.false c.line-line.ensures in
    reply-before _ _ _ _ _ found (λ e. c.if-from-month.false (c.from.ensures ∙ e)) c.if-i-eq0.true

pub overflow_cast-month : goal.overflow_cast-month
overflow_cast-month c =
    let found : Found (lines_of c.args.self.now.months.now c.args.self.now.prices.now) c.args.month c.args.scenario c.in-Some.i c.line-line.result =
    found-line _ _ _ _ _ _ c.in-Some.ensures c.if-scenario.false c.line-line.ensures in
    omega (arith, month-until _ _ _ _ _ found (λ e. c.if-from-month.false (c.from.ensures ∙ e)))

pub price_between-requires-clause-months_lt_month : goal.price_between-requires-clause-months_lt_month
price_between-requires-clause-months_lt_month c =
    let found : Found (lines_of c.args.self.now.months.now c.args.self.now.prices.now) c.args.month c.args.scenario c.in-Some.i c.line-line.result =
    found-line _ _ _ _ _ _ c.in-Some.ensures c.if-scenario.false c.line-line.ensures in
    let before : c.line-before.result ≡ line_at (lines_of c.args.self.now.months.now c.args.self.now.prices.now) (c.in-Some.i - 1) =
    line_read _ _ (c.in-Some.i - 1) (omega (arith, c.in-Some.ensures)) c.line-before.ensures in
    let short = λ (e : c.line-line.result.months ≡ c.args.month). c.if-from-month.false (c.from.ensures ∙ e) in
    (month-since _ _ _ _ _ found short c.if-i-eq0.false c.line-before.result before, month-until _ _ _ _ _ found short)

pub returns : goal.returns
returns c =
    let found : Found (lines_of c.args.self.now.months.now c.args.self.now.prices.now) c.args.month c.args.scenario c.in-Some.i c.line-line.result =
    found-line _ _ _ _ _ _ c.in-Some.ensures c.if-scenario.false c.line-line.ensures in
    let before : c.line-before.result ≡ line_at (lines_of c.args.self.now.months.now c.args.self.now.prices.now) (c.in-Some.i - 1) =
    line_read _ _ (c.in-Some.i - 1) (omega (arith, c.in-Some.ensures)) c.line-before.ensures in
    let short = λ (e : c.line-line.result.months ≡ c.args.month). c.if-from-month.false (c.from.ensures ∙ e) in
    ap Between c.price_between.ensures ∙ reply-between _ _ _ _ _ found short c.if-i-eq0.false c.line-before.result before
