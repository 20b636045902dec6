-- What a driver stands on, of which sockets are bound to two addresses.
use Rattle.std.specs.Prelude.{Result, Ok, Err}
use Rattle.std.specs.declared.net.socket_addr.SocketAddr.{SocketAddr}
use Rattle.net_driver.specs.declared.driver.Driver.{Driver}
use Rattle.net_driver.specs.declared.fault.BindFault.{BindFault}
use Rattle.net_driver.specs.declared.sockets.SystemSockets.{SystemSockets}

-- its sockets, and the addresses that it tells, for readers and for editors; or why there are none
abbrev pub sockets_of : Result Driver BindFault → Result (SystemSockets × (SocketAddr × SocketAddr)) BindFault
sockets_of (Ok driver) = Ok (driver.event_loop.sockets, driver.addresses)
sockets_of (Err fault) = Err fault
