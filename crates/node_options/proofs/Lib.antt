mod PeerNames
mod Somes
