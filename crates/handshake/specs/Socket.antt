-- The address of a socket.
use Rattle.std.specs.Prelude.{ℕ}
use Rattle.std.specs.Net.Addr.{ipv4_octets, ipv6_octets}
use Rattle.std.specs.Net.Socket.{socket_ip, socket_port}
use Rattle.std.specs.declared.net.ip_addr.IpAddr.{IpAddr}
use Rattle.std.specs.declared.net.ip_addr.IpAddr.TheVariants as Ip
use Rattle.std.specs.declared.net.socket_addr.SocketAddr.{SocketAddr}
use Rattle.handshake.specs.declared.address.Address.{Address}
use Rattle.handshake.specs.declared.address.Address.TheVariants.{V4, V6}

-- the octets of the IP address, and the port
abbrev pub of_ip : IpAddr → ℕ → Address
of_ip (Ip.V4 ip) port = V4 (ipv4_octets ip) port
of_ip (Ip.V6 ip) port = V6 (ipv6_octets ip) port

-- the IP address and the port, without flow information and scope
abbrev pub of_socket : SocketAddr → Address
of_socket socket = of_ip (socket_ip socket) (socket_port socket)
