-- Each field is read after the one before it.
use Rattle.base.{specs.Base.{◌≡◌, some, drop}, proofs.Laws.{sym, ◌∙◌}}
use Rattle.script_lines.specs.{Lines.{◌>>=◌, field, open_line}, Found.{field_at, as_number, as_call}}
use Rattle.script_lines.proofs.read_open.Goals as goal
use Rattle.script_lines.proofs.read_open.Goals.{In_ok-account, In_ok-access, In_ok-share, In_ok-disposition, In_ok-options, In_ok-attributes, In_ok-fold}

account : (c : In_ok-account) →
    let line = c.args.line.now in
    field (drop 2 line) ≡ some (field_at line c.in_ok-account.account c.in_ok-account.at)
unfolding as_number
account c = sym c.in_ok-account.ensures

access : (c : In_ok-access) →
    let line = c.args.line.now in
    field (drop c.in_ok-account.at line) ≡ some (field_at line c.in_ok-access.access c.in_ok-access.at)
unfolding as_number
access c = sym c.in_ok-access.ensures

share : (c : In_ok-share) →
    let line = c.args.line.now in
    field (drop c.in_ok-access.at line) ≡ some (field_at line c.in_ok-share.share c.in_ok-share.at)
unfolding as_number
share c = sym c.in_ok-share.ensures

disposition : (c : In_ok-disposition) →
    let line = c.args.line.now in
    field (drop c.in_ok-share.at line) ≡ some (field_at line c.in_ok-disposition.disposition c.in_ok-disposition.at)
unfolding as_number
disposition c = sym c.in_ok-disposition.ensures

options : (c : In_ok-options) →
    let line = c.args.line.now in
    field (drop c.in_ok-disposition.at line) ≡ some (field_at line c.in_ok-options.options c.in_ok-options.at)
unfolding as_number
options c = sym c.in_ok-options.ensures

attributes : (c : In_ok-attributes) →
    let line = c.args.line.now in
    field (drop c.in_ok-options.at line) ≡ some (field_at line c.in_ok-attributes.attributes c.in_ok-attributes.at)
unfolding as_number
attributes c = sym c.in_ok-attributes.ensures

fold : (c : In_ok-fold) →
    let line = c.args.line.now in
    field (drop c.in_ok-attributes.at line) ≡ some (field_at line c.in_ok-fold.fold c.in_ok-fold.at)
unfolding as_number
fold c = sym c.in_ok-fold.ensures

pub returns-in_err-account : goal.returns-in_err-account
unfolding as_number as_call open_line ◌>>=◌
returns-in_err-account c =
    rw (c.from_residual.ensures, sym c.in_err-account.ensures)

pub returns-in_err-access : goal.returns-in_err-access
unfolding as_number as_call open_line ◌>>=◌
returns-in_err-access c =
    let at = goal.at.returns-in_err-access c in
    rw (c.from_residual-in_err-access.ensures, account at.In_ok-account, sym c.in_err-access.ensures)

pub returns-in_err-share : goal.returns-in_err-share
unfolding as_number as_call open_line ◌>>=◌
returns-in_err-share c =
    let at = goal.at.returns-in_err-share c in
    rw (c.from_residual-in_err-share.ensures, account at.In_ok-account, access at.In_ok-access, sym c.in_err-share.ensures)

pub returns-in_err-disposition : goal.returns-in_err-disposition
unfolding as_number as_call open_line ◌>>=◌
returns-in_err-disposition c =
    let at = goal.at.returns-in_err-disposition c in
    rw (c.from_residual-in_err-disposition.ensures, account at.In_ok-account, access at.In_ok-access, share at.In_ok-share, sym c.in_err-disposition.ensures)

pub returns-in_err-options : goal.returns-in_err-options
unfolding as_number as_call open_line ◌>>=◌
returns-in_err-options c =
    let at = goal.at.returns-in_err-options c in
    rw (c.from_residual-in_err-options.ensures, account at.In_ok-account, access at.In_ok-access, share at.In_ok-share, disposition at.In_ok-disposition, sym c.in_err-options.ensures)

pub returns-in_err-attributes : goal.returns-in_err-attributes
unfolding as_number as_call open_line ◌>>=◌
returns-in_err-attributes c =
    let at = goal.at.returns-in_err-attributes c in
    rw (c.from_residual-in_err-attributes.ensures, account at.In_ok-account, access at.In_ok-access, share at.In_ok-share, disposition at.In_ok-disposition, options at.In_ok-options, sym c.in_err-attributes.ensures)

pub returns-in_err-fold : goal.returns-in_err-fold
unfolding as_number as_call open_line ◌>>=◌
returns-in_err-fold c =
    let at = goal.at.returns-in_err-fold c in
    rw (c.from_residual-in_err-fold.ensures, account at.In_ok-account, access at.In_ok-access, share at.In_ok-share, disposition at.In_ok-disposition, options at.In_ok-options, attributes at.In_ok-attributes, sym c.in_err-fold.ensures)

pub returns-then-not-valid_open : goal.returns-then-not-valid_open
unfolding as_call open_line ◌>>=◌
returns-then-not-valid_open c =
    let at = goal.at.returns-then-not-valid_open c in
    let v = sym c.valid_open.ensures ∙ c.if-not-valid_open.true in
    rw (account at.In_ok-account, access at.In_ok-access, share at.In_ok-share, disposition at.In_ok-disposition, options at.In_ok-options, attributes at.In_ok-attributes, fold at.In_ok-fold, v)

pub returns : goal.returns
unfolding as_call open_line ◌>>=◌
returns c =
    let at = goal.at.returns c in
    let v = sym c.valid_open.ensures ∙ c.if-not-valid_open.false in
    rw (account at.In_ok-account, access at.In_ok-access, share at.In_ok-share, disposition at.In_ok-disposition, options at.In_ok-options, attributes at.In_ok-attributes, fold at.In_ok-fold, v)
