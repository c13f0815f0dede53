use Rattle.fiber_poll.proofs.within.go_on.Goals as goal

pub returns-in_err-place_wait-in-Places-clause-on : goal.returns-in_err-place_wait-in-Places-clause-on
returns-in_err-place_wait-in-Places-clause-on g c = c.place_wait.ensures.on (g.R.ReadyLine.told c.args.line.now)

pub returns-in-Awaits-clause-on : goal.returns-in-Awaits-clause-on
returns-in-Awaits-clause-on g c = c.wait.ensures.on (g.R.ReadyLine.told c.args.line.now)

pub returns-in_err-wake-in-Awake-clause-on : goal.returns-in_err-wake-in-Awake-clause-on
returns-in_err-wake-in-Awake-clause-on g c = c.wake.ensures.on (g.R.ReadyLine.told c.args.line.now)

pub returns-in_err-place_attachment-in-Attaches-default-default-default-None-clause-on : goal.returns-in_err-place_attachment-in-Attaches-default-default-default-None-clause-on
returns-in_err-place_attachment-in-Attaches-default-default-default-None-clause-on g c = c.place_attachment.ensures.on (g.R.ReadyLine.told c.args.line.now)

pub returns-in_err-attach_at-in-Attaches-default-default-default-Some-clause-on : goal.returns-in_err-attach_at-in-Attaches-default-default-default-Some-clause-on
returns-in_err-attach_at-in-Attaches-default-default-default-Some-clause-on g c = c.attach_at.ensures.on (g.R.ReadyLine.told c.args.line.now)

pub returns-in_ok-place_wait-in-Places-clause-on : goal.returns-in_ok-place_wait-in-Places-clause-on
returns-in_ok-place_wait-in-Places-clause-on g c = c.place_wait.ensures.on (g.R.ReadyLine.told c.args.line.now)

pub returns-in_ok-wake-in-Awake-clause-on : goal.returns-in_ok-wake-in-Awake-clause-on
returns-in_ok-wake-in-Awake-clause-on g c = c.wake.ensures.on (g.R.ReadyLine.told c.args.line.now)

pub returns-in_ok-place_attachment-in-Attaches-default-default-default-None-clause-on : goal.returns-in_ok-place_attachment-in-Attaches-default-default-default-None-clause-on
returns-in_ok-place_attachment-in-Attaches-default-default-default-None-clause-on g c = c.place_attachment.ensures.on (g.R.ReadyLine.told c.args.line.now)

pub returns-in_ok-attach_at-in-Attaches-default-default-default-Some-clause-on : goal.returns-in_ok-attach_at-in-Attaches-default-default-default-Some-clause-on
returns-in_ok-attach_at-in-Attaches-default-default-default-Some-clause-on g c = c.attach_at.ensures.on (g.R.ReadyLine.told c.args.line.now)
