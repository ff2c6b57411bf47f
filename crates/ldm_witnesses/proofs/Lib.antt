mod Unhindered
