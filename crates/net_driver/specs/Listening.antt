-- Whether a connection waits at a listening socket.
use Rattle.std.specs.Prelude.{Bool, true, false}
use Rattle.std.specs.declared.io.ErrorKind.{ErrorKind}
use Rattle.std.specs.declared.io.ErrorKind.TheVariants as kinds
use Rattle.net_driver.specs.declared.listening.Listening.{Listening}
use Rattle.net_driver.specs.declared.listening.Listening.TheVariants.{Ready, Quiet, Failed}

-- the socket is to be asked
abbrev pub may_accept : Listening → Bool
may_accept Ready = true
may_accept Quiet = false
may_accept Failed = true

-- a connection may wait there, which is to be taken before sockets are waited for
abbrev pub is_ready : Listening → Bool
is_ready Ready = true
is_ready Quiet = false
is_ready Failed = false

-- what a call tells that failed by an error of this kind: none waits where it would wait; one that was interrupted, or whose connection
-- was given up, is to be made again; and with each other it failed
abbrev pub listening_by : ErrorKind → Listening
listening_by kinds.WouldBlock = Quiet
listening_by kinds.Interrupted = Ready
listening_by kinds.ConnectionAborted = Ready
listening_by _ = Failed

-- the poll tells of it, or it doesn't
abbrev pub listening_told : Bool → Listening → Listening
listening_told true before = Ready
listening_told false before = before
